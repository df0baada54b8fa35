-- What the contract of a net's resistance says: the answer is what the definitions give.
use Rattle.std.specs.Prelude.{ℕ, ◌≡◌, List, map}
use Rattle.foil_spec.specs.Lists.{range}
use Rattle.foil_spec.specs.Foil.{Layout}
use Rattle.foil_spec.specs.Ledger.{number_of, first}
use Rattle.foil_spec.specs.Lent.{entry_at}
use Rattle.foil_spec.specs.Ohms.{ohms_refusals, ohms_of}
use Rattle.foil_spec.specs.Calls.{Reply, answered, ran, at_end, measured, laid_all, ohms_reply}
use Rattle.foil_spec.specs.declared.Ink.{Ink}
use Rattle.ohms.specs.declared.Resistance.{Resistance}
use Rattle.ohms.specs.declared.Resistance.TheVariants.{Refused, Ohms}

-- the number of a refusal or the ohms; the last three are a record's replies and a list's
unfoldable pub resistance_of : Reply → Resistance
resistance_of (answered a) = Refused (number_of a)
resistance_of (measured x) = Ohms x
resistance_of (ran given n) = Refused 0
resistance_of at_end = Refused 0
resistance_of (laid_all given) = Refused 0

-- r was answered for a net among the first n entries of a table, where 12 and 13 do not apply
pub record NetAnswered (net : ℕ) (i : Ink) (t : List ℕ) (n : ℕ) (r : Resistance) : Type 0 where
  pub answer : (l : Layout) → l.entries ≡ map (entry_at t) (range 0 n)
      → r ≡ resistance_of (ohms_reply (first (ohms_refusals net i l)) (ohms_of net i l))
