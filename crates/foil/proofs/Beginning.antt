-- A new foil, return by return.
use Prim.Native.Nat.{ℕ}
use native.Mathlib.Omega.{arith}
use mathlib.Core.Path.{◌≡◌, refl, sym, ◌∙◌}
use mathlib.Core.Bool.{Bool, true, false, not, and-false}
use mathlib.Core.List.{List, [], ◌∷◌}
use mathlib.Core.Option.{none, some}
use lib.ListN.{replicate}
use Rattle.foil_spec.specs.Limits.{table_size}
use Rattle.foil_spec.specs.Foil.{Pen, size_ok, pen_ok, pen_rule}
use Rattle.foil_spec.specs.Ledger.{Room, short, Clearance, pen_of, clearance_refusal, new_foil, next, says, first}
use Rattle.foil_spec.specs.Ledger.{reads, refusals, after_lent, settle, refusal_of}
use Rattle.foil_spec.specs.Lent.{lent, store, layout_of, sound, held, step_on}
use Rattle.foil_spec.specs.declared.Board.{Board}
use Rattle.ledger_laws.proofs.Refusals.{no-rule}
use Rattle.ledger_laws.proofs.Line.{new-fine, pen-allowed}
use Rattle.zones.specs.Table.{Table}
use Rattle.zones.proofs.Tables.{pen-small, foil-sized}
use Rattle.tables.proofs.Filling.{no_rows}
use Rattle.std.specs.Prelude.{Err}
use Rattle.foil.specs.Contract.{Answer, Gave, taken_over}
use Rattle.foil.proofs.Giving.{step-refused}
use Rattle.foil.proofs.Making.{rows-table}

-- the pen of a clearance that passes is within its limits
pub passed-pen : (c : Clearance) → first (clearance_refusal c ∷ []) ≡ none → pen_ok (pen_of c) ≡ true
passed-pen c h = pen-allowed c (no-rule (clearance_refusal c).applies (clearance_refusal c).number [] h)

pub bare-table : (w h : ℕ) (p : Pen) → size_ok w ≡ true → size_ok h ≡ true → pen_ok p ≡ true
    → Table (replicate table_size 0) 0 (pen_rule p) w h
bare-table w h p a e g =
    rows-table (replicate table_size 0) [] 0 refl no_rows (pen_rule p) w h (omega arith) (pen-small p g)
    (foil-sized w h a e) refl

module _ (b : Board) (t s : List ℕ) (w h : ℕ) (c : Clearance) (room : Room) (long : short room ≡ false) where
  -- the call on what it is lent, and its refusals
  abbrev Given : Answer → Board → List ℕ → List ℕ → Type 0
  Given r b' t' s' = Gave (step_on room (new_foil w h c) (lent b t s)) r b' t' s'

  from-1 : refusal_of room (not (sound (lent b t s))) (new_foil w h c) (held (lent b t s))
      ≡ first (refusals (new_foil w h c) room (held (lent b t s)))
  unfolding refusal_of after_lent first reads
  from-1 = rw (long, and-false (not (sound (lent b t s)))) refl

  module _ (u : Bool) (u-is : u ≡ size_ok w) where
    pub no-width : u ≡ false → Given (Err 1) b t s
    unfolding first refusals
    no-width n =
        step-refused (new_foil w h c) (lent b t s) 1 room (from-1 ∙ rw (sym u-is ∙ n) refl)

    module _ (wide : u ≡ true) (v : Bool) (v-is : v ≡ size_ok h) where
      pub no-height : v ≡ false → Given (Err 1) b t s
      unfolding first refusals
      no-height n =
          step-refused (new_foil w h c) (lent b t s) 1 room
          (from-1 ∙ rw (sym u-is ∙ wide, sym v-is ∙ n) refl)

      module _ (high : v ≡ true) where
        -- then only the clearance can still be refused
        past-1 : first (refusals (new_foil w h c) room (held (lent b t s))) ≡ first (clearance_refusal c ∷ [])
        unfolding first refusals
        past-1 = rw (sym u-is ∙ wide, sym v-is ∙ high) refl

        pub no-pen : (n : ℕ) → first (clearance_refusal c ∷ []) ≡ some n → Given (Err n) b t s
        no-pen n e = step-refused (new_foil w h c) (lent b t s) n room (from-1 ∙ past-1 ∙ e)

        pub begun : first (clearance_refusal c ∷ []) ≡ none → (p : Pen) → p ≡ pen_of c
            → (r : Answer) (b' : Board) (t' s' : List ℕ)
            → Gave (taken_over (layout_of w h p 0 (replicate table_size 0)) (lent b t s)) r b' t' s' → Given r b' t' s'
        unfolding step_on settle next says store layout_of first
        begun clear p e r b' t' s' k =
            rw (from-1 ∙ past-1 ∙ clear, sym e)
            (rw (new-fine w h p) at k)
