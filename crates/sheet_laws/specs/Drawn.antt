-- Find and book on a sheet, as it is stated (document 02, P2): in a list of calls a lay may be replaced by the two.
use Rattle.std.specs.Prelude.{ℕ, ◌*◌, ◌≡◌, List, ◌∷◌, length, take}
use Rattle.foil_spec.specs.Foil.{Point}
use Rattle.foil_spec.specs.Ledger.{Step, lay, find, book, laid, booked}
use Rattle.foil_spec.specs.Calls.{step, answered}
use Rattle.foil_spec.specs.Sheet.{Sheet, SheetLending, SheetLeft, run_sheet}

-- another step on the foil of the call c, lent as much of the table and the strips, and the output list out
abbrev pub in_place_of : SheetLending → Step → List ℕ → SheetLending
in_place_of c s out =
    record {
      foil = c.foil;
      call = step s;
      table_front = c.table_front;
      strip_front = c.strip_front;
      output = out;
    }

-- a lay that is accepted, on a sheet that holds anything, and the calls cs after it: a find that is lent what the lay
-- was answers as the lay, leaves its corners and the sheet as it was; a booking of the corners found leaves the sheet
-- that the lay leaves; and all calls after these go as they did
abbrev pub FindsAndBooks : Type 0
FindsAndBooks =
    (x : Sheet) (c : SheetLending) (cs : List SheetLending) (o : SheetLeft) (os : List SheetLeft) (net : ℕ)
    (S T : Point) (ds : List Point) (n : ℕ) (out : List ℕ) → c.call ≡ step (lay net S T) → run_sheet x (c ∷ cs) ≡ o ∷ os
    → o.reply ≡ answered (laid ds n)
    → run_sheet x (
    in_place_of c (find S T) c.output ∷ in_place_of c (book net (take (length ds * 2) o.output)) out ∷ cs)
    ≡ record { reply = o.reply; sheet = x; output = o.output }
    ∷ record { reply = answered (booked (length ds) n); sheet = o.sheet; output = out }
    ∷ os
