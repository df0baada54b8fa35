-- A whole list of calls, each lent what the last one left, whole lists or front parts; and the same on the ledger.
use Rattle.std.specs.Prelude.{ℕ, ◌≡◌, ◌⊎◌, List, [], ◌∷◌, ◌++◌, length, take, drop}
use Rattle.std.proofs.Math.Option.{Option}
use Rattle.foil_spec.specs.Foil.{Pen, Layout}
use Rattle.foil_spec.specs.Carrying.{Old}
use Rattle.foil_spec.specs.Ledger.{by_pen, new_foil, carry, Answer, accepted, wrote, Room, After}
use Rattle.foil_spec.specs.Lent.{Lent, store, room_in}
use Rattle.foil_spec.specs.Calls.{Call, step, run_record, Reply, answered, ran, ledger_call, call_on, output_by}

-- a call, how many numbers of the table and of the strip list it is lent, its own output list, and how many entries the
-- foil may have then: fewer than a table holds only on a sheet
pub record Lending : Type 0 where
  pub call : Call
  pub table_front : ℕ
  pub strip_front : ℕ
  pub output : List ℕ
  pub limit : ℕ

-- what the call is lent of m: the lists whole or a front part of each
unfoldable pub front : Lending → Lent → Lent
front c m =
    record {
      board = m.board;
      table = take c.table_front m.table;
      strips = take c.strip_front m.strips;
    }

-- the room that it has
unfoldable pub room_for : Lending → Lent → Room
room_for c m = room_in c.limit (front c m) (length c.output)

-- m after the call has left `out` of what it was lent
unfoldable pub back : Lending → Lent → Lent → Lent
back c m out =
    record {
      board = out.board;
      table = out.table ++ drop c.table_front m.table;
      strips = out.strips ++ drop c.strip_front m.strips;
    }

-- a call's reply, and the whole lists after it
unfoldable pub lend : Lending → Lent → After Reply Lent
lend c m =
    record {
      answer = (call_on (room_for c m) c.call (front c m)).answer;
      state = back c m (call_on (room_for c m) c.call (front c m)).state;
    }

-- the ledger's reply to a call: it is fed the call and the lengths of what is lent; m was lent at first
unfoldable pub told : Lent → Lending → Layout → After Reply Layout
told m c l = ledger_call (room_for c m) c.call l

-- what a call leaves: its reply, what was lent of the foil, and its output list
pub record Left : Type 0 where
  pub reply : Reply
  pub lists : Lent
  pub output : List ℕ

-- the same by the reply and the lists
unfoldable pub leaves : Lending → Reply → Lent → Left
leaves c r m = record { reply = r; lists = m; output = output_by r c.output }

-- the calls one after the other, each lent what the last one left
unfoldable pub run_lent : Lent → List Lending → List Left
run_lent m [] = []
run_lent m (c ∷ cs) = leaves c (lend c m).answer (lend c m).state ∷ run_lent (lend c m).state cs

-- the same calls on the ledger, and what the record and the lists hold by it
unfoldable pub run_ledger : Lent → Layout → List Lending → List Left
run_ledger m l [] = []
run_ledger m l (c ∷ cs) =
    leaves c (told m c l).answer (store (told m c l).state m) ∷ run_ledger m (told m c l).state cs

-- the call begins a foil: a new foil that is accepted, by call or as the board of a record at place 0; or a foil that
-- is carried over
abbrev pub Begins : Call → Reply → Type 0
Begins c r =
    ((W : ℕ) × (H : ℕ) × (p : Pen) × (c ≡ step (new_foil W H (by_pen p))) × (r ≡ answered accepted))
    ⊎ ((bs : List ℕ) × (given : List Answer) × (n : Option ℕ) × (c ≡ run_record bs 0) × (r ≡ ran (accepted ∷ given) n))
    ⊎ ((o : Old) × (nets : List ℕ) × (c ≡ step (carry o)) × (r ≡ answered (wrote nets)))
