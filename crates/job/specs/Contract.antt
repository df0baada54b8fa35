-- What the contract of a record says: reply, board, lists and corner list are what the definitions give.
use Rattle.std.specs.Prelude.{ℕ, zero, suc, ◌+◌, ◌≡◌, Bool, cond, List, [], ◌∷◌, length}
use Rattle.std.specs.Prelude.{Option, Some, None, Result, Ok, Err}
use Rattle.std.proofs.Math.Option.{Option as MathOption, none, some}
use Rattle.foil_spec.specs.Ledger.{After}
use Rattle.foil_spec.specs.Ledger.{Answer as Outcome}
use Rattle.foil_spec.specs.Lent.{Lent, room_in}
use Rattle.foil_spec.specs.Job.{has}
use Rattle.foil_spec.specs.Calls.{RecordReply, refused_whole, ran_steps, end_mark, as_reply, record_on, output_by}
use Rattle.foil_spec.specs.declared.Board.{Board}
use Rattle.foil.specs.Contract.{Answer, answer_of}
use Rattle.job.specs.declared.Answers.{Answers}
use Rattle.job.specs.declared.Progress.{Progress}
use Rattle.job.specs.declared.Progress.TheVariants.{Ran, AtEnd}

-- what a bit told: an answer, or nothing
abbrev pub Told : Type 0
Told = Option Answer

-- what a record came to, or the number that refuses it as a whole
abbrev pub Reply : Type 0
Reply = Result Progress ℕ

-- how many bits below k are set; `on` says which are
unfoldable pub set_below : (ℕ → Bool) → ℕ → ℕ
set_below on zero = 0
set_below on (suc k) = set_below on k + cond (on k) 1 0

-- answer i of a list, if it has so many
unfoldable pub said_at : List Outcome → ℕ → Told
said_at [] i = None
said_at (a ∷ given) zero = Some (answer_of a)
said_at (a ∷ given) (suc i) = said_at given i

-- what the step of bit k told, by the answers of the steps that were run
unfoldable pub told_at : (ℕ → Bool) → List Outcome → ℕ → Told
told_at on given k = cond (on k) (said_at given (set_below on k)) None

-- what each bit told, in the field of the bit
unfoldable pub by_bit : (ℕ → Told) → Answers
by_bit f = record { board = f 0; patch = f 1; track = f 2; lift = f 3; leg = f 4 }

-- what bit k told, by its field
unfoldable pub told_by_bits : Answers → ℕ → Told
told_by_bits a zero = a.board
told_by_bits a (suc zero) = a.patch
told_by_bits a (suc (suc zero)) = a.track
told_by_bits a (suc (suc (suc zero))) = a.lift
told_by_bits a (suc (suc (suc (suc k)))) = a.leg

-- the answers of the steps that were run, in the fields of their bits
unfoldable pub answers_of : (ℕ → Bool) → List Outcome → Answers
answers_of on given = by_bit (told_at on given)

-- the next place, if there is one
unfoldable pub next_of : MathOption ℕ → Option ℕ
next_of (some n) = Some n
next_of none = None

-- where a job goes on after a reply
unfoldable pub next_in : Reply → Option ℕ
next_in (Err n) = None
next_in (Ok (Ran a next)) = next
next_in (Ok AtEnd) = None

-- document 01's number and values for each case of what a record comes to; `on` says which bits are set
unfoldable pub reply_of : (ℕ → Bool) → RecordReply → Reply
reply_of on (refused_whole n) = Err n
reply_of on (ran_steps given n) = Ok (Ran (answers_of on given) (next_of n))
reply_of on end_mark = Ok AtEnd

-- the reply r, the record b, the table t and the strips s are those of a, and the output list is out' after that reply
pub record Replies (on : ℕ → Bool) (a : After RecordReply Lent) (out : List ℕ) (r : Reply) (b : Board)
    (t s out' : List ℕ) : Type 0 where
  pub reply : r ≡ reply_of on a.answer
  pub board : b ≡ a.state.board
  pub table : t ≡ a.state.table
  pub strips : s ≡ a.state.strips
  pub output : out' ≡ output_by (as_reply a.answer) out

-- the record at a place was lent m and the corner list out, on a foil of so many entries at most
abbrev pub RecordIn : ℕ → List ℕ → ℕ → Lent → List ℕ → Reply → Board → List ℕ → List ℕ → List ℕ → Type 0
RecordIn limit bs at m out r b t s out' =
    Replies (has bs at) (record_on (room_in limit m (length out)) bs at m) out r b t s out'
