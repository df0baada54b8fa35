-- The rules that a foil keeps, one by one.
use Prim.Native.Nat.{ℕ}
use mathlib.Core.Path.{◌≡◌, refl}
use mathlib.Core.Bool.{true, false}
use mathlib.Core.List.{List}
use lib.Dec.{leb, ltb}
use lib.ListN.{length}
use Rattle.foil_spec.specs.Lists.{all}
use Rattle.foil_spec.specs.Limits.{max_entries, max_strips}
use Rattle.foil_spec.specs.Foil.{Entry, Layout, size_ok, pen_ok, entry_ok, no_crossing, pen_rule, patch_margin, free}
use Rattle.foil_spec.specs.Sound.{Asked, today, strips_by, keeps_asked}
use Rattle.foil_spec.specs.Ledger.{strips_of, is_too_fine}
use Rattle.foil_spec.specs.Lent.{layout_ok}
use Rattle.list_laws.proofs.Tests.{parts}

-- ---- by what is asked of it

pub record KeepsEach (a : Asked) (W H : ℕ) (es : List Entry) : Type 0 where
  pub width : size_ok W ≡ true
  pub height : size_ok H ≡ true
  pub allowed : a.allowed ≡ true
  pub entries : all (entry_ok W H) es ≡ true
  pub long : leb (length es) max_entries ≡ true
  pub besides : a.besides es ≡ true
  pub fine : ltb max_strips (length (strips_by a.rule W H es)) ≡ false

pub of-asked : (a : Asked) (W H : ℕ) (es : List Entry) → keeps_asked a W H es ≡ true → KeepsEach a W H es
unfolding keeps_asked
of-asked a W H es g =
    record {
      width = search parts depth 9;
      height = search parts depth 9;
      allowed = search parts;
      entries = search parts;
      long = search parts;
      besides = search parts;
      fine = search parts;
    }

pub to-asked : (a : Asked) (W H : ℕ) (es : List Entry) → KeepsEach a W H es → keeps_asked a W H es ≡ true
unfolding keeps_asked
to-asked a W H es g = simp (g.width, g.height, g.allowed, g.entries, g.long, g.besides, g.fine)

-- ---- today

pub record Keeps (l : Layout) : Type 0 where
  pub width : size_ok l.width ≡ true
  pub height : size_ok l.height ≡ true
  pub pen : pen_ok l.pen ≡ true
  pub entries : all (entry_ok l.width l.height) l.entries ≡ true
  pub long : leb (length l.entries) max_entries ≡ true
  pub uncrossed : no_crossing (patch_margin l.pen) l.entries ≡ true
  pub fine : is_too_fine l ≡ false

-- its strips are those by the rule of its pen
pub strips-by : (l : Layout) → strips_of l ≡ strips_by (pen_rule l.pen) l.width l.height l.entries
unfolding strips_of strips_by free
strips-by l = refl

pub of-ok : (l : Layout) → layout_ok l ≡ true → Keeps l
unfolding layout_ok today is_too_fine
of-ok l g =
    let k = of-asked (today l.pen) l.width l.height l.entries g in
    record {
      width = k.width;
      height = k.height;
      pen = k.allowed;
      entries = k.entries;
      long = k.long;
      uncrossed = k.besides;
      fine = rw (strips-by l) k.fine;
    }

pub to-ok : (l : Layout) → Keeps l → layout_ok l ≡ true
unfolding layout_ok today is_too_fine
to-ok l g =
    to-asked (today l.pen) l.width l.height l.entries
    (record {
      width = g.width;
      height = g.height;
      allowed = g.pen;
      entries = g.entries;
      long = g.long;
      besides = g.uncrossed;
      fine = rw (strips-by l) at g.fine;
    })
