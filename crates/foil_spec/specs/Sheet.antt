-- Eight foils on one sheet (document 02, P12): one table, foil after foil, and for each foil a record and strips of its
-- own; what a call on one of them does, on the ledger and on what is lent; and whole lists of calls on all of them.
use Rattle.std.specs.Prelude.{ℕ, ◌+◌, ◌*◌, ◌-◌, ◌/◌, min, max, Bool, true, false, cond, not, ◌&&◌, List, [], ◌∷◌, ◌++◌, map, leb, ltb, eqb, length, get_or, set, take, drop}
use Rattle.std.proofs.Math.Option.{Option, none, some}
use Rattle.foil_spec.specs.Lists.{all, each}
use Rattle.foil_spec.specs.Limits.{max_entries, table_size, strips_size, sheet_entries, sheet_size, sure_entries}
use Rattle.foil_spec.specs.Foil.{entry_numbers, Layout, no_foil}
use Rattle.foil_spec.specs.Ledger.{strips_of, Room, Step, new_foil, draw, lay, lift, look_up, put_leg, save, find}
use Rattle.foil_spec.specs.Ledger.{book, slip, join, carry, Answer, refused, says, next, Refusal, ◌⇒◌, first}
use Rattle.foil_spec.specs.Ledger.{after_lent, After, settle, refusal_of}
use Rattle.foil_spec.specs.Lent.{Lent, lent, strip_numbers, written, board_of, store, held, sound}
use Rattle.foil_spec.specs.Calls.{Call, step, run_record, ohms, lay_list, RecordReply, refused_whole, Reply}
use Rattle.foil_spec.specs.Calls.{answered, too_large, record_by, reply, output_by}
use Rattle.foil_spec.specs.Wishes.{too_many}
use Rattle.foil_spec.specs.declared.Board.{Board}

-- ---- how many entries the foils have

-- the sum of the numbers
unfoldable pub total : List ℕ → ℕ
total [] = 0
total (n ∷ ns) = n + total ns

-- the places that are kept for foils of so many entries: 32 at least for each
unfoldable pub reserved : List ℕ → ℕ
reserved ns = total (map (max sure_entries) ns)

-- no foil has more than 128
unfoldable pub each_few : List ℕ → Bool
each_few ns = all (λ (n : ℕ). leb n max_entries) ns

-- both limits are kept: 128 entries a foil, and 512 in all where each foil counts 32 at least
unfoldable pub counts_ok : List ℕ → Bool
counts_ok ns = each_few ns && leb (reserved ns) sheet_entries

-- how many entries foil k may have beside the others: a step fits just if it leaves no more
unfoldable pub limit_of : List ℕ → ℕ → ℕ
limit_of ns k = min max_entries (sheet_entries - (reserved ns - max sure_entries (get_or ns k 0)))

-- ---- the sheet as it is lent

-- what a call on a foil of the sheet is lent: the foils' records, the table of them all, and the foil's own strip list
pub record SheetLent : Type 0 where
  pub boards : List Board
  pub table : List ℕ
  pub strips : List ℕ

-- the record of a foil that is not begun
abbrev pub no_board : Board
no_board = record { width = 0; height = 0; half = 0; gap = 0; entries = 0; strips = 0 }

-- how many entries each foil has by its record
unfoldable pub counts : List Board → List ℕ
counts bs = map (λ (b : Board). b.entries) bs

-- the numbers of each foil's entries, cut off a table in turn
unfoldable pub parts : List ℕ → List ℕ → List (List ℕ)
parts [] t = []
parts (n ∷ ns) t = take (5 * n) t ∷ parts ns (drop (5 * n) t)

-- the same one after the other
unfoldable pub joined : List (List ℕ) → List ℕ
joined ps = each (λ (p : List ℕ). p) ps

-- foil k's entries as a table of its own, zeros after them
unfoldable pub table_at : ℕ → List Board → List ℕ → List ℕ
table_at k bs t = written table_size (get_or (parts (counts bs) t) k []) []

-- foil k as a foil of its own: its record, its entries, its strips
unfoldable pub view : ℕ → SheetLent → Lent
view k m = lent (get_or m.boards k no_board) (table_at k m.boards m.table) m.strips

-- the sheet where foil k is now v: the other foils' entries as they were, and zeros in the unused places
unfoldable pub put_back : ℕ → SheetLent → Lent → SheetLent
put_back k m v =
    record {
      boards = set m.boards k v.board;
      table =
          written sheet_size
          (joined (set (parts (counts m.boards) m.table) k (take (5 * v.board.entries) v.table))) m.table;
      strips = v.strips;
    }

-- the room of a call on foil k, where the foils have so many entries: 128 places of the table if the sheet has all of
-- its 512, else none
unfoldable pub sheet_room : ℕ → List ℕ → SheetLent → ℕ → Room
sheet_room k ns m output =
    record {
      table = cond (ltb (length m.table / 5) sheet_entries) 0 max_entries;
      strips = length m.strips / 4;
      output = output;
      limit = limit_of ns k;
    }

-- ---- the calls on what is lent

-- the step, where it is accepted, begins a foil, or adds or takes entries
unfoldable pub writes : Step → Bool
writes (new_foil W H c) = true
writes (draw x0 y0 x1 y1) = true
writes (lay net S T) = true
writes (lift net) = true
writes (look_up p) = false
writes (put_leg e) = true
writes save = false
writes (find S T) = false
writes (book net ks) = true
writes slip = false
writes (join net S) = true
writes (carry o) = true

-- what a step on foil k does: what it does to the foil alone; the table is written anew, or left as it is
unfoldable pub sheet_step : ℕ → Room → Step → SheetLent → After Answer SheetLent
sheet_step k r s m =
    settle (refusal_of r (not (sound (view k m))) s (held (view k m)))
    (record {
      answer = says s (held (view k m));
      state = cond (writes s) (put_back k m (store (next s (held (view k m))) (view k m))) m;
    })
    m

-- the refusals that a call begins with, before foil k is looked at; `broken` says that the foils' counts break a limit
unfoldable pub opening : Room → Bool → Call → List Refusal
opening r broken (step s) = after_lent r broken []
opening r broken (run_record bs at) = (too_large bs ⇒ 18) ∷ after_lent r broken []
opening r broken (ohms net i) = after_lent r broken []
opening r broken (lay_list ws n) = (too_many ws n ⇒ 12) ∷ after_lent r broken []

-- the number that turns a call down so, if one does; first of all 23
unfoldable pub sheet_refusal : Room → Bool → ℕ → Call → Option ℕ
sheet_refusal r broken k c = first ((ltb 7 k ⇒ 23) ∷ opening r broken c)

-- refused by a number, and the state stays as it is; or what the call gives
unfoldable pub unless : {S : Type 0} → Option ℕ → After Reply S → S → After Reply S
unless (some n) done old = record { answer = answered (refused n); state = old }
unless none done old = done

-- what a call on foil k does to what is lent
unfoldable pub sheet_call : Room → ℕ → Call → SheetLent → After Reply SheetLent
sheet_call r k c m =
    unless (sheet_refusal r (not (counts_ok (counts m.boards))) k c)
    (reply (sheet_step k) r (not (sound (view k m))) c (held (view k m)) m) m

-- a record that is refused as a whole by a number, and the state stays as it is; or what the record gives
unfoldable pub unless_whole : {S : Type 0} → Option ℕ → After RecordReply S → S → After RecordReply S
unless_whole (some n) done old = record { answer = refused_whole n; state = old }
unless_whole none done old = done

-- what the record at a place does on foil k to what is lent
unfoldable pub sheet_record : Room → ℕ → List ℕ → ℕ → SheetLent → After RecordReply SheetLent
sheet_record r k bs at m =
    unless_whole (sheet_refusal r (not (counts_ok (counts m.boards))) k (run_record bs at))
    (record_by (sheet_step k) r (not (sound (view k m))) bs at m) m

-- ---- the ledger, which keeps a row for each foil

-- no foil is begun there
unfoldable pub blank : Layout → Bool
blank l = eqb l.width 0

-- its line for a step on a row; a foil that is not begun is a broken state
unfoldable pub row_step : Room → Step → Layout → After Answer Layout
row_step r s l = settle (refusal_of r (blank l) s l) (record { answer = says s l; state = next s l }) l

-- its reply to a call on a row
unfoldable pub row_call : Room → Call → Layout → After Reply Layout
row_call r c l = reply row_step r (blank l) c l l

-- its reply to a call on foil k; its own counts never break a limit
unfoldable pub sheet_ledger_call : Room → ℕ → Call → List Layout → After Reply (List Layout)
sheet_ledger_call r k c ls =
    unless (sheet_refusal r false k c)
    (record {
      answer = (row_call r c (get_or ls k no_foil)).answer;
      state = set ls k (row_call r c (get_or ls k no_foil)).state;
    })
    ls

-- how many entries each foil has by its row
unfoldable pub row_counts : List Layout → List ℕ
row_counts ls = map (λ (l : Layout). length l.entries) ls

-- ---- whole lists of calls

-- the whole sheet: the foils' records, the table, and the strip list of each foil
pub record Sheet : Type 0 where
  pub boards : List Board
  pub table : List ℕ
  pub strips : ℕ → List ℕ

-- the strip list of a foil: its strips, then zeros; as it was lent where the foil is not begun
unfoldable pub row_strips : Layout → List ℕ → List ℕ
row_strips l old = cond (blank l) old (written strips_size (each strip_numbers (strips_of l)) old)

-- the numbers of a row
unfoldable pub row_numbers : Layout → List ℕ
row_numbers l = each entry_numbers l.entries

-- the rows in a table, by foil number, then zeros
unfoldable pub rows_table : List Layout → List ℕ → List ℕ
rows_table ls old = written sheet_size (joined (map row_numbers ls)) old

-- the rows of the ledger, written into a sheet
unfoldable pub store_sheet : List Layout → Sheet → Sheet
store_sheet ls m =
    record {
      boards = map board_of ls;
      table = rows_table ls m.table;
      strips = λ (k : ℕ). row_strips (get_or ls k no_foil) (m.strips k);
    }

-- a call on a foil, how many numbers of the table and of the foil's strip list it is lent, and its own output list
pub record SheetLending : Type 0 where
  pub foil : ℕ
  pub call : Call
  pub table_front : ℕ
  pub strip_front : ℕ
  pub output : List ℕ

-- what the call is lent of m: the lists whole or a front part of each
unfoldable pub sheet_front : SheetLending → Sheet → SheetLent
sheet_front c m =
    record {
      boards = m.boards;
      table = take c.table_front m.table;
      strips = take c.strip_front (m.strips c.foil);
    }

-- m after the call has left `out` of what it was lent; the other foils' strips stay
unfoldable pub sheet_back : SheetLending → Sheet → SheetLent → Sheet
sheet_back c m out =
    record {
      boards = out.boards;
      table = out.table ++ drop c.table_front m.table;
      strips = λ (k : ℕ).
          cond (eqb k c.foil) (out.strips ++ drop c.strip_front (m.strips k)) (m.strips k);
    }

-- the room that the call has, where the foils have so many entries
unfoldable pub room_on : SheetLending → List ℕ → Sheet → Room
room_on c ns m = sheet_room c.foil ns (sheet_front c m) (length c.output)

-- what the call does to what it is lent
unfoldable pub called_on : SheetLending → Sheet → After Reply SheetLent
called_on c m = sheet_call (room_on c (counts m.boards) m) c.foil c.call (sheet_front c m)

-- its reply, and the whole sheet after it
unfoldable pub lend_sheet : SheetLending → Sheet → After Reply Sheet
lend_sheet c m = record { answer = (called_on c m).answer; state = sheet_back c m (called_on c m).state }

-- the ledger's reply: it is fed the call and the lengths of what is lent; m was lent at first
unfoldable pub told_sheet : Sheet → SheetLending → List Layout → After Reply (List Layout)
told_sheet m c ls = sheet_ledger_call (room_on c (row_counts ls) m) c.foil c.call ls

-- what a call leaves: its reply, the sheet, and its output list
pub record SheetLeft : Type 0 where
  pub reply : Reply
  pub sheet : Sheet
  pub output : List ℕ

-- the same by the reply and the sheet
unfoldable pub leaves_sheet : SheetLending → Reply → Sheet → SheetLeft
leaves_sheet c r m = record { reply = r; sheet = m; output = output_by r c.output }

-- the calls one after the other, each lent what the last one left
unfoldable pub run_sheet : Sheet → List SheetLending → List SheetLeft
run_sheet m [] = []
run_sheet m (c ∷ cs) =
    leaves_sheet c (lend_sheet c m).answer (lend_sheet c m).state ∷ run_sheet (lend_sheet c m).state cs

-- the same calls on the ledger, and what the sheet holds by it
unfoldable pub run_sheet_ledger : Sheet → List Layout → List SheetLending → List SheetLeft
run_sheet_ledger m ls [] = []
run_sheet_ledger m ls (c ∷ cs) =
    leaves_sheet c (told_sheet m c ls).answer (store_sheet (told_sheet m c ls).state m)
    ∷ run_sheet_ledger m (told_sheet m c ls).state cs
