-- What carrying the entries of an old foil over leaves.
use Rattle.std.specs.Prelude.{ℕ, ◌*◌, ◌≤◌, ◌≡◌, true, List, [], ◌∷◌, map, length}
use Rattle.foil_spec.specs.Lists.{range, all}
use Rattle.foil_spec.specs.Limits.{max_entries}
use Rattle.foil_spec.specs.Foil.{Entry, pen, Layout, size_ok, reach_ok, entry_ok}
use Rattle.foil_spec.specs.Carrying.{Old, unblocked}
use Rattle.foil_spec.specs.Ledger.{is_too_fine, carry, wrote, ◌⇒◌, first, After, settle}
use Rattle.foil_spec.specs.Ledger.{Answer as Outcome}
use Rattle.foil_spec.specs.Lent.{Lent, entry_at, store, room_of, output_after}
use Rattle.foil_spec.specs.declared.OldBoard.{OldBoard}
use Rattle.foil_spec.specs.declared.Board.{Board}
use Rattle.foil.specs.Contract.{Answer, Gave, Wrote}

-- the call for the old foil o: what it was lent of a foil, on which it may fill the table, was m, and the report out;
-- it is left so
abbrev pub CarryDone : Old → Lent → List ℕ → Answer → Board → List ℕ → List ℕ → List ℕ → Type 0
CarryDone o m out a b t s out' = Wrote (carry o) (room_of m (length out)) m out a b t s out'

-- an old record and table keep document 01's limits
pub record OldRows (t : List ℕ) (b : OldBoard) : Type 0 where
  pub width : size_ok b.width ≡ true
  pub height : size_ok b.height ≡ true
  pub reach : reach_ok b.reach ≡ true
  pub len : b.entries * 5 ≤ length t
  pub few : b.entries ≤ max_entries
  pub entries : all (entry_ok b.width b.height) (map (entry_at t) (range 0 b.entries)) ≡ true

-- the foil by today's rules, where the old one has the entries es
abbrev pub carried_layout : OldBoard → List Entry → Layout
carried_layout b es =
    record { width = b.width; height = b.height; pen = pen 0 b.reach; entries = unblocked b.reach es }

-- what comes of it in place of what m holds, if only 11 can still refuse it; the nets ns are lifted
abbrev pub carried_to : Layout → List ℕ → Lent → After Outcome Lent
carried_to l ns m = settle (first ((is_too_fine l ⇒ 11) ∷ [])) (record { answer = wrote ns; state = store l m }) m

-- answer, record, table and strips are those, and the report, which was out, is left as out'
pub record CarriedAs (l : Layout) (ns : List ℕ) (m : Lent) (out : List ℕ) (a : Answer) (b : Board) (t s out' : List ℕ)
    : Type 0 where
  pub gave : Gave (carried_to l ns m) a b t s
  pub output : out' ≡ output_after (carried_to l ns m).answer out
