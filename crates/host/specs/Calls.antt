-- What the calls over structs have done: the same as the calls on numbers, `on_sheet` of the table's numbers.
use Rattle.std.specs.Prelude.{ℕ, ◌≡◌, List, Ok, Err}
use Rattle.foil_spec.specs.Lists.{each}
use Rattle.foil_spec.specs.Foil.{Entry, entry_numbers}
use Rattle.foil_spec.specs.Ledger.{Step}
use Rattle.foil_spec.specs.Ohms.{whole}
use Rattle.foil_spec.specs.Sheet.{SheetLent}
use Rattle.foil_spec.specs.declared.Ink.{Ink}
use Rattle.foil.specs.Contract.{Answer}
use Rattle.foil.specs.declared.Accepted.TheVariants.{Done, Laid, Found, Wrote}
use Rattle.ohms.specs.declared.Resistance.{Resistance}
use Rattle.ohms.specs.declared.Resistance.TheVariants.{Refused as RefusedOhms, Ohms}
use Rattle.sheet_rows.specs.declared.Sheet.{Sheet}
use Rattle.sheet_rows.specs.Rows.{sheet_lent}
use Rattle.sheet.specs.Contract.{SheetStepDone, SheetOutputDone, SheetReadDone, SheetOhmsDone, SheetListDone}
use Rattle.host.specs.declared.said.Said.{Said}
use Rattle.host.specs.declared.said.OhmsSaid.{OhmsSaid}

-- what a call on a foil is lent: the records b, the numbers of the table es, and the foil's strips s
abbrev pub lent_of : Sheet → List Entry → List ℕ → SheetLent
lent_of b es s = sheet_lent b.boards (each entry_numbers es) s

-- a step on foil k: records, table and strips were b, es and s; it answered a and left b', es' and s'
abbrev pub HostDone : ℕ → Step → Sheet → List Entry → List ℕ → Answer → Sheet → List Entry → List ℕ → Type 0
HostDone k c b es s a b' es' s' =
    SheetStepDone k c (lent_of b es s) a b' (each entry_numbers es') s'

-- the same of a step with an output list, which was out and is left as out'
abbrev pub HostWrote : ℕ → Step → Sheet → List Entry → List ℕ → List ℕ → Answer → Sheet → List Entry → List ℕ
    → List ℕ → Type 0
HostWrote k c b es s out a b' es' s' out' =
    SheetOutputDone k c (lent_of b es s) out a b' (each entry_numbers es') s' out'

-- the list of the wishes ws on foil k was lent the corner list out and the answers' list ans besides, and left them as
-- out' and ans'
abbrev pub HostListed : ℕ → List ℕ → Sheet → List Entry → List ℕ → List ℕ → List ℕ → Answer → Sheet → List Entry
    → List ℕ → List ℕ → List ℕ → Type 0
HostListed k ws b es s out ans a b' es' s' out' ans' =
    SheetListDone k ws (lent_of b es s) out ans a b' (each entry_numbers es') s' out' ans'

-- a step that only reads what it is lent of the sheet answered a and left its output list out as out'
abbrev pub HostRead : ℕ → Step → Sheet → List Entry → List ℕ → List ℕ → Answer → List ℕ → Type 0
HostRead k c b es s out a out' = SheetReadDone k c (lent_of b es s) out a out'

-- the ohms of a net of foil k were asked, what is lent was only read, and r was answered
abbrev pub HostOhms : ℕ → ℕ → Ink → Sheet → List Entry → List ℕ → Resistance → Type 0
HostOhms k net i b es s r = SheetOhmsDone k net i (lent_of b es s) r

-- ---- answers as numbers

-- no numbers
abbrev pub nothing_said : Said
nothing_said = record { number = 0; corners = 0; bends = 0; place = 0; bytes = 0 }

-- an answer's numbers: 0 is no refusal
unfoldable pub said_of : Answer → Said
said_of (Err n) = record { number = n; corners = 0; bends = 0; place = 0; bytes = 0 }
said_of (Ok Done) = nothing_said
said_of (Ok (Laid k n)) = record { number = 0; corners = k; bends = n; place = 0; bytes = 0 }
said_of (Ok (Found k)) = record { number = 0; corners = 0; bends = 0; place = k; bytes = 0 }
said_of (Ok (Wrote n)) = record { number = 0; corners = 0; bends = 0; place = 0; bytes = n }

-- the number of a refusal, 0 for none, and the ohms, 0 where they are refused
unfoldable pub ohms_said : Resistance → OhmsSaid
ohms_said (RefusedOhms n) = record { number = n; ohms = whole 0 }
ohms_said (Ohms x) = record { number = 0; ohms = x }

-- r says, by `say`, an answer for which P holds
pub record ToldBy {A B : Type 0} (say : A → B) (P : A → Type 0) (r : B) : Type 0 where
  pub answer : A
  pub said : r ≡ say answer
  pub holds : P answer
