-- What a carry leaves keeps today's rules: no patch crosses a leg of the nets that are not lifted.
use Prim.Native.Nat.{ℕ, ◌≤◌}
use native.Mathlib.Omega.{arith}
use native.Mathlib.Nat.{zero-add}
use mathlib.Core.Path.{◌≡◌, refl, subst}
use mathlib.Core.Bool.{Bool, true, false, not, ◌&&◌}
use mathlib.Core.List.{List}
use lib.Dec.{eqb}
use borrow.Author.Tests.{eq-eqb, leb-true, le-leb}
use lib.ListN.{length}
use Rattle.foil_spec.specs.Lists.{keep}
use Rattle.foil_spec.specs.Limits.{max_entries}
use Rattle.foil_spec.specs.Foil.{Entry, pen, reach_ok, pen_ok, entry_ok, crosses, under_patch, no_crossing, pen_rule}
use Rattle.foil_spec.specs.Foil.{patch_margin}
use Rattle.foil_spec.specs.Nets.{of_net}
use Rattle.foil_spec.specs.Sound.{Asked, formerly}
use Rattle.foil_spec.specs.Carrying.{Old, old_sound, old_entries, net_blocked, unblocked, carried}
use Rattle.foil_spec.specs.Ledger.{is_too_fine}
use Rattle.foil_spec.specs.Lent.{layout_ok}
use Rattle.foil_spec.specs.declared.OldBoard.{OldBoard}
use Rattle.list_laws.proofs.Tests.{not_t, all_keep}
use Rattle.list_laws.proofs.Members.{In, of-keep, not-any, length-keep}
use Rattle.ledger_laws.proofs.Rules.{KeepsEach, of-asked, to-ok}
use Rattle.ledger_laws.proofs.Sound.{SoundAs, of-sound-as}
use Rattle.ledger_laws.proofs.Crossing.{to-no-crossing}

module _ (d : ℕ) (es : List Entry) where
  -- the entry's net is not lifted
  abbrev stays : Entry → Bool
  stays e = not (net_blocked d es e.net)

  -- such an entry is under no patch
  clear : (e : Entry) → In e es → net_blocked d es e.net ≡ false → under_patch d es e ≡ false
  unfolding net_blocked of_net
  clear e i h =
      subst (λ (b : Bool). (b && under_patch d es e) ≡ false) (eq-eqb e.net e.net refl)
      (not-any (λ (x : Entry). eqb x.net e.net && under_patch d es x) e es h i)

  uncrossed : no_crossing d (unblocked d es) ≡ true
  unfolding unblocked under_patch
  uncrossed =
      to-no-crossing d (keep stays es)
      (λ p e i j.
      let (on, kept) = of-keep stays e es j in
      not-any (λ (x : Entry). crosses d x e) p es (clear e on (not_t _ kept)) (of-keep stays p es i).0)

-- a pen of half width 0 keeps patches as far away as its gap says
pub gap-margin : (d : ℕ) → patch_margin (pen 0 d) ≡ d
unfolding patch_margin pen_rule
gap-margin d = zero-add d

module _ (o : Old) (s : old_sound o ≡ true) where
  abbrev b : OldBoard
  b = o.board

  -- what is asked by document 01 of the old foil
  abbrev asked : Asked
  asked = formerly b.reach

  pub old-known : SoundAs asked b.width b.height b.entries b.strips o.table o.strips
  unfolding old_sound
  old-known =
      of-sound-as asked b.width b.height b.entries b.strips o.table o.strips s

  pub old-keeps : KeepsEach asked b.width b.height (old_entries o)
  unfolding old_entries
  old-keeps = of-asked asked b.width b.height (old_entries o) old-known.kept

  pub old-few : length (old_entries o) ≤ max_entries
  old-few = leb-true (length (old_entries o)) max_entries old-keeps.long

  pub few-left : length (carried o).entries ≤ length (old_entries o)
  unfolding carried unblocked
  few-left = length-keep (stays b.reach (old_entries o)) (old_entries o)

  pub carried-ok : is_too_fine (carried o) ≡ false → layout_ok (carried o) ≡ true
  unfolding carried pen_ok formerly reach_ok
  carried-ok fine =
      let k = old-keeps in
      to-ok (carried o)
      (record {
        width = k.width;
        height = k.height;
        pen = k.allowed;
        entries =
            unfold unblocked in
            all_keep (entry_ok b.width b.height) (stays b.reach (old_entries o)) (old_entries o) k.entries;
        long = le-leb (length (carried o).entries) max_entries (omega (arith, few-left, old-few));
        uncrossed = rw (gap-margin b.reach) (uncrossed b.reach (old_entries o));
        fine = fine;
      })
