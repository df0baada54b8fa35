-- A list of nets, as it is stated (document 02, P7): it is its lays by calls of their own, one after the other, each
-- lent the corner places that are still unused.
use Rattle.std.specs.Prelude.{ℕ, ◌≡◌, List, [], ◌∷◌, ◌++◌, map, length, take, drop}
use Rattle.foil_spec.specs.Ledger.{Step, Answer}
use Rattle.foil_spec.specs.Lent.{Lent}
use Rattle.foil_spec.specs.Wishes.{wishes}
use Rattle.foil_spec.specs.Calls.{step, lay_list, Reply, answered, laid_all, output_by}
use Rattle.foil_spec.specs.Sequence.{Lending, lend, Left, run_lent}

-- how many numbers of its output list a call writes, by its reply
unfoldable pub written_by : Reply → ℕ
written_by a = length (output_by a [])

-- a step by a call of its own, lent as much of the table and the strips as c, and the output list out
abbrev pub by_itself : Lending → Step → List ℕ → Lending
by_itself c s out =
    record {
      call = step s;
      table_front = c.table_front;
      strip_front = c.strip_front;
      output = out;
      limit = c.limit;
    }

-- the steps by such calls one after the other, from the whole lists m on; of the output list each is lent what those
-- before it have not written
unfoldable pub singly : Lending → Lent → List Step → List ℕ → List Lending
singly c m [] out = []
singly c m (s ∷ ss) out =
    by_itself c s out
    ∷ singly c (lend (by_itself c s out) m).state ss (drop (written_by (lend (by_itself c s out) m).answer) out)

-- the lists after calls that left these, where they were m before
unfoldable pub lists_after : Lent → List Left → Lent
lists_after m [] = m
lists_after m (o ∷ os) = lists_after o.lists os

-- the one output list of which they were lent the rest each, where it was out before
unfoldable pub output_over : List Left → List ℕ → List ℕ
output_over [] out = out
output_over (o ∷ os) out =
    take (written_by o.reply) o.output ++ output_over os (drop (written_by o.reply) o.output)

-- what the steps ss by calls of their own left is what the call c, which answered `given`, left of m
pub record AsSingle (c : Lending) (m : Lent) (given : List Answer) (os : List Left) : Type 0 where
  pub replies : map (λ (o : Left). o.reply) os ≡ map answered given
  pub lists : lists_after m os ≡ (lend c m).state
  pub output : output_over os c.output ≡ output_by (laid_all given) c.output

-- a list that is not refused as a whole, on lists that hold anything: its answers, what it leaves of the foil and its
-- corners are those of its lays by calls of their own
abbrev pub ListsAsLays : Type 0
ListsAsLays =
    (c : Lending) (m : Lent) (ws : List ℕ) (n : ℕ) (given : List Answer) → c.call ≡ lay_list ws n
    → (lend c m).answer ≡ laid_all given → AsSingle c m given (run_lent m (singly c m (wishes ws) c.output))
