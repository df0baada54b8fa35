-- The state check, test by test: each test that fails shows that the state is not sound, and all together that it is.
use Prim.Native.Nat.{ℕ, ◌+◌, ◌-◌, ◌*◌, ◌≤◌, ◌<◌}
use native.Mathlib.Omega.{arith}
use mathlib.Core.Path.{◌≡◌, refl, sym, ap, ◌∙◌}
use mathlib.Core.Bool.{Bool, true, false, not, ◌&&◌, and-true, and-false}
use mathlib.Core.List.{List, map}
use lib.Dec.{leb, ltb}
use lib.ListN.{length, get_or, take}
use borrow.Author.Tests.{le-leb, leb-true, ltb-false, le-ltb}
use Rattle.foil_spec.specs.Lists.{range, all, each}
use Rattle.foil_spec.specs.Limits.{max_entries, table_size, max_strips, strips_size}
use Rattle.foil_spec.specs.Foil.{Entry, entry_numbers, Rule, size_ok, reach_ok, pen_ok, entry_ok, no_crossing, pen_rule}
use Rattle.foil_spec.specs.Foil.{patch_margin, reach_rule}
use Rattle.foil_spec.specs.Strips.{Strip}
use Rattle.foil_spec.specs.Sound.{entry_at, strip_numbers, written, Asked, today, formerly, strips_by, keeps_asked}
use Rattle.foil_spec.specs.Sound.{listed_in, sound_by}
use Rattle.foil_spec.specs.Carrying.{old, old_sound}
use Rattle.foil_spec.specs.Lent.{lent, pen_in, sound}
use Rattle.foil_spec.specs.declared.Board.{Board}
use Rattle.foil_spec.specs.declared.OldBoard.{OldBoard}
use Rattle.foil_spec.proofs.Written.{written-zero}
use Rattle.list_laws.proofs.Tests.{both, clash, parts}
use Rattle.ledger_laws.proofs.Stored.{length-entries, length-strips}
use Rattle.ledger_laws.proofs.Rules.{of-asked, to-asked}
use Rattle.ledger_laws.proofs.Sound.{SoundAs, of-sound-as, to-sound-as, as_long, length-read, read-numbers}
use Rattle.ledger_laws.proofs.Sound.{front-written, is-written, zeros-written}
use Rattle.zones.specs.Table.{Small, Table}
use Rattle.zones.proofs.Tables.{foil-sized, table_of}
use Rattle.std.specs.Prelude.{Option, Some, None}
use Rattle.strips.specs.Built.{Rebuilt}
use Rattle.strips.specs.Decided.{Decided}
use Rattle.state.specs.Tests.{Zeros, sizes_ok, ruled, StripsRight}

-- ---- the strips

-- the strips ss, which were built anew
module _ (ss : List Strip) (count : ℕ) (s : List ℕ) where
  ns : List ℕ
  ns = each strip_numbers ss

  -- they are as many as counted, and the list has the same front, or not
  pub compared : (out o : List ℕ) (c : Option ℕ) (r : Bool) → Rebuilt o out ss c → c ≡ Some count
      → Decided (take strips_size out ≡ take strips_size s) r → Decided (StripsRight ss count s) r
  unfolding ns
  compared out o None r z k h = absurd (cc)
  compared out o (Some c) r (n, few, e) k h = go r h
    where
      fits : length ns ≤ strips_size
      fits = omega (arith, length-strips ss)

      front : take strips_size out ≡ take strips_size (written strips_size ns s)
      front =
          ap (take strips_size) e ∙ front-written strips_size ns o fits ∙ sym (front-written strips_size ns s fits)

      go : (r : Bool) → Decided (take strips_size out ≡ take strips_size s) r → Decided (StripsRight ss count s) r
      go true h =
          record {
            few = omega arith;
            counted = cc;
            listed = is-written strips_size ns s fits (sym h ∙ front ∙ front-written strips_size ns s fits);
          }
      go false h = λ q. h (front ∙ ap (take strips_size) (sym q.listed))

-- ---- the sizes

-- an answer that is true
pub told : (P : Type 0) (r : Bool) → Decided P r → r ≡ true → P
told P true d e = d
told P false d e = clash e refl

pub few_of_sizes : (w h n : ℕ) → sizes_ok w h n ≡ true → n ≤ max_entries
unfolding sizes_ok
few_of_sizes w h n y =
    let few : leb n max_entries ≡ true = search parts in
    leb-true n max_entries few

pub table_of_tests : (t : List ℕ) (n : ℕ) (rule : Rule) (w h : ℕ) → Small rule → table_size ≤ length t
    → sizes_ok w h n ≡ true → all (entry_ok w h) (map (entry_at t) (range 0 n)) ≡ true → Table t n rule w h
unfolding sizes_ok
table_of_tests t n rule w h small long y entries =
    let few = few_of_sizes w h n y in
    table_of t n rule w h few (omega (arith, few)) small (foil-sized w h (search parts) (search parts)) entries

-- ---- the whole check by a rule

module _ (rule : Rule) (w h n count : ℕ) (t s : List ℕ) where
  abbrev right : Bool
  right = sound_by (ruled rule) w h n count t s

  abbrev es : List Entry
  es = map (entry_at t) (range 0 n)

  not_right : (SoundAs (ruled rule) w h n count t s → ⊥) → false ≡ right
  not_right f = both right (λ e. absurd (f (of-sound-as (ruled rule) w h n count t s e))) (λ e. sym e)

  pub short-table : length t < table_size → false ≡ right
  short-table l = not_right (λ k. omega (arith, (as_long (ruled rule) w h n count t s k).0))

  pub short-strips : length s < strips_size → false ≡ right
  short-strips l = not_right (λ k. omega (arith, (as_long (ruled rule) w h n count t s k).1))

  pub bad-sizes : sizes_ok w h n ≡ false → false ≡ right
  unfolding sizes_ok
  bad-sizes f =
      not_right (λ k.
      let g = of-asked (ruled rule) w h es k.kept in
      clash (let y : sizes_ok w h n ≡ true = simp (g.width, g.height, le-leb n max_entries k.few) in y) f)

  pub bad-entries : all (entry_ok w h) es ≡ false → false ≡ right
  bad-entries f = not_right (λ k. clash (of-asked (ruled rule) w h es k.kept).entries f)

  zeros-after : SoundAs (ruled rule) w h n count t s → Zeros t (n * 5) table_size
  zeros-after k =
      record {
        zero-at = λ i p q.
            let ns : List ℕ = each entry_numbers es in
            let c : length ns ≡ n * 5 = omega (arith, length-entries es, length-read t n) in
            let j : length ns + (i - length ns) ≡ i = omega arith in
            ap (λ (l : List ℕ). get_or l i 0) k.table_is
            ∙ ap (λ (x : ℕ). get_or (written table_size ns t) x 0) (sym j)
            ∙ written-zero table_size ns t (omega (arith, k.few)) (i - length ns) (omega arith);
      }

  pub bad-rest : (r : Bool) → Decided (Zeros t (n * 5) table_size) r → r ≡ false → false ≡ right
  bad-rest true z f = clash refl f
  bad-rest false z f = not_right (λ k. z (zeros-after k))

  -- what the tests before that of the strips have shown
  pub record Shown : Type 0 where
    pub long : table_size ≤ length t
    pub sizes : sizes_ok w h n ≡ true
    pub entries : all (entry_ok w h) es ≡ true
    pub rest : Zeros t (n * 5) table_size

  all-kept : Shown → length (strips_by rule w h es) ≤ max_strips → keeps_asked (ruled rule) w h es ≡ true
  unfolding sizes_ok ruled
  all-kept k f =
      let y = k.sizes in
      to-asked (ruled rule) w h es
      (record {
        width = search parts;
        height = search parts;
        allowed = refl;
        entries = k.entries;
        long = le-leb (length es) max_entries (omega (arith, length-read t n, few_of_sizes w h n y));
        besides = refl;
        fine = le-ltb max_strips (length (strips_by rule w h es)) f;
      })

  table-right : Shown → t ≡ written table_size (each entry_numbers es) t
  table-right k =
      let f = few_of_sizes w h n k.sizes in
      zeros-written (n * 5) table_size t (omega arith) k.long k.rest.zero-at
      ∙ ap (λ (ns : List ℕ). written table_size ns t) (sym (read-numbers t n (omega (arith, k.long))))

  pub all_right : (r : Bool) → Shown → Decided (StripsRight (strips_by rule w h es) count s) r → r ≡ right
  unfolding ruled
  all_right true k z =
      sym (to-sound-as (ruled rule) w h n count t s (all-kept k z.few) z.counted (table-right k) z.listed)
  all_right false k z =
      not_right (λ q. z
      (record {
        few = ltb-false max_strips (length (strips_by rule w h es)) (of-asked (ruled rule) w h es q.kept).fine;
        counted = q.counted;
        listed = q.strips-are;
      }))

  -- where it is passed, the table has the entries, and they are few
  pub right-fits : (r : Bool) → r ≡ right → r ≡ true → (n ≤ max_entries) × (n * 5 ≤ length t)
  right-fits r e f =
      let k = of-sound-as (ruled rule) w h n count t s (sym e ∙ f) in
      (k.few, omega (arith, k.few, (as_long (ruled rule) w h n count t s k).0))

-- ---- with what is asked besides

split : (x a e l b f g : Bool)
    → (x && a && e && l && b && f && g) ≡ (a && (x && true && e && l && true && f && g) && b)
split x true e l true f g = sym (and-true (x && true && e && l && true && f && g))
split x true e l false f g =
    rw (and-false (x && true && e && l), and-false (x && true && e && l && true && f && g)) refl
split x false e l b f g = rw (and-false x) refl

-- the check is that by the rule, and of what is asked besides
pub asked-parts : (a : Asked) (w h n count : ℕ) (t s : List ℕ)
    → sound_by a w h n count t s
    ≡ (a.allowed && sound_by (ruled a.rule) w h n count t s && a.besides (map (entry_at t) (range 0 n)))
unfolding sound_by keeps_asked ruled
asked-parts a w h n count t s =
    let es : List Entry = map (entry_at t) (range 0 n) in
    split (size_ok w && size_ok h) a.allowed (all (entry_ok w h) es) (leb (length es) max_entries) (a.besides es)
    (not (ltb max_strips (length (strips_by a.rule w h es))))
    (listed_in es (strips_by a.rule w h es) count t s)

-- today's check, by the pen
module _ (b : Board) (t s : List ℕ) where
  abbrev entries : List Entry
  entries = map (entry_at t) (range 0 b.entries)

  -- the check by a rule
  abbrev by : Rule → Bool
  by rule = sound_by (ruled rule) b.width b.height b.entries b.strips t s

  today-parts : sound (lent b t s)
      ≡ (pen_ok (pen_in b) && by (pen_rule (pen_in b)) && no_crossing (patch_margin (pen_in b)) entries)
  unfolding sound today
  today-parts = asked-parts (today (pen_in b)) b.width b.height b.entries b.strips t s

  pub bad-pen : (r : Bool) → r ≡ pen_ok (pen_in b) → r ≡ false → false ≡ sound (lent b t s)
  bad-pen r e f = sym (today-parts ∙ simp (sym e ∙ f))

  module _ (allowed : pen_ok (pen_in b) ≡ true) (rule : Rule) (is : rule ≡ pen_rule (pen_in b)) (r : Bool)
      (found : r ≡ by rule) where
    by-is : r ≡ by (pen_rule (pen_in b))
    by-is = found ∙ ap by is

    pub rule-broken : r ≡ false → false ≡ sound (lent b t s)
    rule-broken f = sym (today-parts ∙ simp (allowed, sym by-is ∙ f))

    pub rule-kept : r ≡ true → (q : Bool) → q ≡ no_crossing rule.patch entries → q ≡ sound (lent b t s)
    unfolding patch_margin
    rule-kept f q e =
        e ∙ ap (λ (x : Rule). no_crossing x.patch entries) is
        ∙ sym (today-parts ∙ simp (allowed, sym by-is ∙ f))

-- document 01's check, by the reach
module _ (b : OldBoard) (t s : List ℕ) where
  old-parts : old_sound (old b t s)
      ≡ (reach_ok b.reach
      && sound_by (ruled (reach_rule b.reach)) b.width b.height b.entries b.strips t s && true)
  unfolding old_sound formerly
  old-parts = asked-parts (formerly b.reach) b.width b.height b.entries b.strips t s

  pub bad-reach : (r : Bool) → r ≡ reach_ok b.reach → r ≡ false → false ≡ old_sound (old b t s)
  bad-reach r e f = sym (old-parts ∙ simp (sym e ∙ f))

  pub old-rule : (r : Bool) → r ≡ reach_ok b.reach → r ≡ true → (q : Bool)
      → q ≡ sound_by (ruled (reach_rule b.reach)) b.width b.height b.entries b.strips t s
      → q ≡ old_sound (old b t s)
  old-rule r e f q is = is ∙ sym (old-parts ∙ simp (sym e ∙ f, and-true))
