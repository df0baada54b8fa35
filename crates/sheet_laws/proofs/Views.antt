-- A foil of any sheet, seen as a foil of its own: calls on it go as calls on the foil alone, and no other foil changes.
use Prim.Native.Nat.{ℕ, ◌+◌, ◌-◌, ◌*◌, ◌≤◌, ◌<◌}
use native.Mathlib.Omega.{arith}
use mathlib.Core.Path.{◌≡◌, refl, sym, ap, ap₂, ◌∙◌}
use mathlib.Core.Bool.{Bool, true, not, cond}
use mathlib.Core.List.{List, []}
use mathlib.Core.Logic.{◌≢◌}
use mathlib.Core.Option.{Option, none, some}
use lib.ListN.{length, get_or, set, take, drop, length-set, length-map, get_or-map}
use lib.Seq.{get_or-set_same, get_or-set_other, set-set}
use Rattle.foil_spec.specs.Limits.{table_size, sheet_foils, sheet_size}
use Rattle.foil_spec.specs.Foil.{Layout}
use Rattle.foil_spec.specs.Ledger.{Room, with_output, Step, says, next, After, settle, refusal_of}
use Rattle.foil_spec.specs.Lent.{Lent, lent, written, board_of, store, layout_of, held, sound, step_on}
use Rattle.foil_spec.specs.Calls.{Call, Reply, reply, call_on}
use Rattle.foil_spec.specs.Sheet.{total, counts_ok, limit_of, SheetLent, no_board, counts, parts, joined, table_at, view}
use Rattle.foil_spec.specs.Sheet.{put_back, writes, sheet_step, row_numbers}
use Rattle.foil_spec.specs.declared.Board.{Board}
use Rattle.foil_spec.proofs.Written.{written-again, length-written, drop-written, written-zero}
use Rattle.list_laws.proofs.Tests.{both, not-ff}
use Rattle.ledger_laws.proofs.Stored.{length-entries}
use Rattle.ledger_laws.proofs.Refusals.{unrefused-sound, unrefused-own}
use Rattle.ledger_laws.proofs.Sound.{length-read, of-sound, sound-store-is}
use Rattle.ledger_laws.proofs.Replies.{shown_by, Shown, reply-shown}
use Rattle.sheet_laws.specs.Alone.{EightFoils, RoomOn}
use Rattle.sheet_laws.proofs.Counts.{ok-total, ok_at, limit-own, limit-same, fits}
use Rattle.sheet_laws.proofs.Parts.{Sized, length-parts, part-few, sized-parts, sized_set, length-joined}
use Rattle.sheet_laws.proofs.Parts.{parts-written}
use Rattle.sheet_laws.proofs.Line.{sheet-line}
use Rattle.sheet_laws.proofs.Rows.{map-set, front-row}

-- ---- the foils' counts

pub counts-length : (bs : List Board) → length (counts bs) ≡ length bs
unfolding counts
counts-length bs = length-map bs (λ (b : Board). b.entries)

pub counts-at : (bs : List Board) (k : ℕ) → get_or (counts bs) k 0 ≡ (get_or bs k no_board).entries
unfolding counts
counts-at bs k = get_or-map (λ (b : Board). b.entries) bs k no_board

counts-put : (bs : List Board) (k : ℕ) (b : Board) → counts (set bs k b) ≡ set (counts bs) k b.entries
unfolding counts
counts-put bs k b = map-set (λ (x : Board). x.entries) bs k b

-- ---- a foil is put back

module _ (k : ℕ) (x : SheetLent) (w : EightFoils x.boards x.table) (here : k < sheet_foils) where
  abbrev ns : List ℕ
  ns = counts x.boards

  abbrev ps : List (List ℕ)
  ps = parts ns x.table

  pub in-counts : k < length ns
  in-counts = omega (arith, counts-length x.boards, w.eight)

  in_parts : k < length ps
  in_parts = omega (arith, length-parts ns x.table, in-counts)

  -- what the foil held makes no difference to what is stored in it
  store_view : (l : Layout) → store l (view k x) ≡ store l (lent no_board [] x.strips)
  unfolding store view table_at row_numbers
  store_view l =
      ap (λ (t : List ℕ). lent (board_of l) t (store l (view k x)).strips)
      (written-again table_size (get_or ps k []) []
      (omega (arith, part-few ns k x.table, ok_at ns w.limits k in-counts)) (row_numbers l))

  module _ (l : Layout) (few : length l.entries ≤ limit_of ns k) where
    -- the foil with another row
    abbrev put : SheetLent
    put = put_back k x (store l (view k x))

    abbrev n : ℕ
    n = length l.entries

    abbrev qs : List (List ℕ)
    qs = set ps k (row_numbers l)

    put-boards : put.boards ≡ set x.boards k (board_of l)
    unfolding put_back store
    put-boards = refl

    put-counts : counts put.boards ≡ set ns k n
    unfolding put_back store board_of
    put-counts = counts-put x.boards k (board_of l)

    put-table : put.table ≡ written sheet_size (joined qs) x.table
    unfolding put_back store board_of row_numbers
    put-table =
        ap (λ (t : List ℕ). written sheet_size (joined (set ps k (take (5 * n) t))) x.table)
        (ap (λ (v : Lent). v.table) (store_view l))
        ∙ ap (λ (p : List ℕ). written sheet_size (joined (set ps k p)) x.table) (front-row l)

    sized : Sized (set ns k n) qs
    unfolding row_numbers
    sized =
        sized_set ns ps k n (row_numbers l)
        (sized-parts ns x.table (omega (arith, ok-total ns w.limits, w.places))) (length-entries l.entries)

    put-limits : counts_ok (set ns k n) ≡ true
    put-limits = fits ns w.limits k in-counts n few

    put-parts : parts (counts put.boards) put.table ≡ qs
    put-parts =
        ap₂ (λ (is t : List ℕ). parts is t) put-counts put-table
        ∙ parts-written (set ns k n) qs sheet_size x.table sized

    qs-fit : length (joined qs) ≤ sheet_size
    qs-fit = omega (arith, length-joined (set ns k n) qs sized, ok-total (set ns k n) put-limits)

    pub put-length : length put.table ≡ length x.table
    put-length = ap length put-table ∙ length-written sheet_size (joined qs) x.table qs-fit w.places

    -- the unused places are zero
    pub put-zero : (i : ℕ) → 5 * total (counts put.boards) ≤ i → i < sheet_size → get_or put.table i 0 ≡ 0
    put-zero i h less =
        let size : length (joined qs) ≡ 5 * total (counts put.boards) =
        length-joined (set ns k n) qs sized ∙ ap (λ (is : List ℕ). 5 * total is) (sym put-counts) in
        let e : length (joined qs) + (i - length (joined qs)) ≡ i = omega arith in
        ap (λ (t : List ℕ). get_or t i 0) put-table
        ∙ ap (λ (j : ℕ). get_or (written sheet_size (joined qs) x.table) j 0) (sym e)
        ∙ written-zero sheet_size (joined qs) x.table qs-fit (i - length (joined qs)) (omega arith)

    -- places past 512 are not touched
    pub put-past : drop sheet_size put.table ≡ drop sheet_size x.table
    put-past = ap (drop sheet_size) put-table ∙ drop-written sheet_size (joined qs) x.table qs-fit

    pub put_whole : EightFoils put.boards put.table
    put_whole =
        record {
          eight = ap length put-boards ∙ length-set x.boards k (board_of l) ∙ w.eight;
          limits = ap counts_ok put-counts ∙ put-limits;
          places = omega (arith, put-length, w.places);
        }

    -- the foil is then what was put there
    stored-again : lent (board_of l) (written table_size (row_numbers l) []) put.strips ≡ store l (view k x)
    unfolding put_back store row_numbers
    stored-again =
        ap (λ (t : List ℕ). lent (board_of l) t (store l (view k x)).strips)
        (sym (ap (λ (v : Lent). v.table) (store_view l)))

    pub view-own : view k put ≡ store l (view k x)
    unfolding view table_at
    view-own =
        ap₂ (λ (b : Board) (p : List ℕ). lent b (written table_size p []) put.strips)
        (ap (λ (bs : List Board). get_or bs k no_board) put-boards
        ∙ get_or-set_same x.boards k (board_of l) no_board (omega (arith, w.eight)))
        (ap (λ (zs : List (List ℕ)). get_or zs k []) put-parts ∙ get_or-set_same ps k (row_numbers l) [] in_parts)
        ∙ stored-again

    -- what is put back next comes to the sheet as it was first
    table-again : (p : List ℕ)
        → written sheet_size (joined (set (parts (counts put.boards) put.table) k p)) put.table
        ≡ written sheet_size (joined (set ps k p)) x.table
    table-again p =
        ap₂ (λ (zs : List (List ℕ)) (t : List ℕ). written sheet_size (joined (set zs k p)) t) put-parts put-table
        ∙ ap (λ (zs : List (List ℕ)). written sheet_size (joined zs) (written sheet_size (joined qs) x.table))
        (set-set ps k (row_numbers l) p)
        ∙ written-again sheet_size (joined qs) x.table qs-fit (joined (set ps k p))

    pub put-again : (v : Lent) → put_back k put v ≡ put_back k x v
    unfolding put_back
    put-again v =
        ap₂ (λ (bs : List Board) (t : List ℕ). record { boards = bs; table = t; strips = v.strips })
        (ap (λ (bs : List Board). set bs k v.board) put-boards ∙ set-set x.boards k (board_of l) v.board)
        (table-again (take (5 * v.board.entries) v.table))

    -- and every other foil what it was
    module _ (j : ℕ) (ne : j ≢ k) where
      pub other-board : get_or put.boards j no_board ≡ get_or x.boards j no_board
      other-board =
          ap (λ (bs : List Board). get_or bs j no_board) put-boards
          ∙ get_or-set_other x.boards k j (board_of l) no_board ne

      pub other-table : table_at j put.boards put.table ≡ table_at j x.boards x.table
      unfolding table_at
      other-table =
          ap (λ (p : List ℕ). written table_size p [])
          (ap (λ (zs : List (List ℕ)). get_or zs j []) put-parts ∙ get_or-set_other ps k j (row_numbers l) [] ne)

-- ---- a step

-- a sheet on which foil k may have so many entries
pub record StandsAt (most k : ℕ) (x : SheetLent) : Type 0 where
  pub whole : EightFoils x.boards x.table
  pub limit : most ≡ limit_of (counts x.boards) k

-- as many as the room r says
abbrev pub Stands : Room → ℕ → SheetLent → Type 0
Stands r k x = StandsAt r.limit k x

pub stands-in : (r : Room) (k : ℕ) (m : SheetLent) → RoomOn r k m → Stands r k m
stands-in r k m o = record { whole = o.eight-foils; limit = o.limit }

-- what is known of the other foils of x, where m became x by calls on foil k
pub record Others (k : ℕ) (m x : SheetLent) : Type 0 where
  pub boards : (j : ℕ) → j ≢ k → get_or x.boards j no_board ≡ get_or m.boards j no_board
  pub tables : (j : ℕ) → j ≢ k → table_at j x.boards x.table ≡ table_at j m.boards m.table
  pub past : drop sheet_size x.table ≡ drop sheet_size m.table
  pub size : length x.table ≡ length m.table

module _ (r : Room) (k : ℕ) (here : k < sheet_foils) where
  module _ (x : SheetLent) (w : Stands r k x) (s : Step) where
    abbrev l : Layout
    l = held (view k x)

    pub own-count : length l.entries ≡ get_or (counts x.boards) k 0
    unfolding held layout_of view
    own-count = length-read (view k x).table (get_or x.boards k no_board).entries ∙ sym (counts-at x.boards k)

    next_fits : (b : Bool) → refusal_of r b s l ≡ none
        → length (next s l).entries ≤ limit_of (counts x.boards) k
    next_fits b e =
        omega (
          arith,
          (sheet-line s).fits r l (unrefused-own r s l b e),
          w.limit,
          own-count,
          limit-own (counts x.boards) w.whole.limits k (in-counts k x w.whole here),
        )

    abbrev broken : Bool
    broken = not (sound (view k x))

    -- what it leaves, accepted
    abbrev after : SheetLent
    after = cond (writes s) (put_back k x (store (next s l) (view k x))) x

    after-view : refusal_of r broken s l ≡ none → view k after ≡ store (next s l) (view k x)
    after-view e =
        both (writes s)
        (λ t. rw t (view-own k x w.whole here (next s l) (next_fits broken e)))
        (λ t.
        let known = not-ff (sound (view k x)) (unrefused-sound r s l broken e ((sheet-line s).seen t)) in
        rw (t, (sheet-line s).still t l) (sym (sound-store-is (view k x) (of-sound (view k x) known))))

    settle-view : (o : Option ℕ) → refusal_of r broken s l ≡ o
        → settle o (record { answer = says s l; state = store (next s l) (view k x) }) (view k x)
        ≡ shown_by (view k) (settle o (record { answer = says s l; state = after }) x)
    unfolding settle shown_by
    settle-view (some n) e = refl
    settle-view none e = ap (λ (v : Lent). record { answer = says s l; state = v }) (sym (after-view e))

    step-view : step_on r s (view k x) ≡ shown_by (view k) (sheet_step k r s x)
    unfolding step_on sheet_step
    step-view = settle-view (refusal_of r broken s l) refl

    -- a step leaves what `keeps` says that putting back keeps
    module _ (Q : SheetLent → Type 0) (q : Q x)
        (keeps : (l' : Layout) → length l'.entries ≤ limit_of (counts x.boards) k
        → Q (put_back k x (store l' (view k x)))) where
      after-keeps : refusal_of r broken s l ≡ none → Q after
      after-keeps e = both (writes s) (λ t. rw t (keeps (next s l) (next_fits broken e))) (λ t. rw t q)

      settle-keeps : (o : Option ℕ) → refusal_of r broken s l ≡ o
          → Q (settle o (record { answer = says s l; state = after }) x).state
      unfolding settle
      settle-keeps (some n) e = q
      settle-keeps none e = after-keeps e

      pub step_keeps : Q (sheet_step k r s x).state
      unfolding sheet_step
      step_keeps = settle-keeps (refusal_of r broken s l) refl

  step-stands : (s : Step) (x : SheetLent) → Stands r k x → Stands r k (sheet_step k r s x).state
  step-stands s x w =
      step_keeps x w s (Stands r k) w
      (λ l few.
      record {
        whole = put_whole k x w.whole here l few;
        limit =
            w.limit
            ∙ sym (limit-same (counts x.boards) k (length l.entries) (in-counts k x w.whole here))
            ∙ ap (λ (ns : List ℕ). limit_of ns k) (sym (put-counts k x w.whole here l few));
      })

  step-others : (m : SheetLent) (s : Step) (x : SheetLent) → Stands r k x × Others k m x
      → Stands r k (sheet_step k r s x).state × Others k m (sheet_step k r s x).state
  step-others m s x (w, o) = (
    step-stands s x w,
    step_keeps x w s (Others k m) o
        (λ l few.
        record {
          boards = λ j ne. other-board k x w.whole here l few j ne ∙ o.boards j ne;
          tables = λ j ne. other-table k x w.whole here l few j ne ∙ o.tables j ne;
          past = put-past k x w.whole here l few ∙ o.past;
          size = put-length k x w.whole here l few ∙ o.size;
        }),
  )

-- ---- a call

module _ (r : Room) (k : ℕ) (here : k < sheet_foils) where
  module _ (c : Call) (m : SheetLent) (w : Stands r k m) where
    -- the call on the sheet, past the refusals that it begins with
    abbrev called : After Reply SheetLent
    called = reply (sheet_step k) r (not (sound (view k m))) c (held (view k m)) m

    called-shown : Shown (view k) (λ (x : SheetLent). Stands r k x × Others k m x) called (call_on r c (view k m))
    unfolding call_on
    called-shown =
        reply-shown (view k) (λ (x : SheetLent). Stands r k x × Others k m x) (sheet_step k) step_on r
        (λ n s x q.
        record {
          is = step-view (with_output r n) k here x q.0 s;
          kept = step-others (with_output r n) k here m s x q;
        })
        (not (sound (view k m))) c (held (view k m)) m
        (w, record { boards = λ j ne. refl; tables = λ j ne. refl; past = refl; size = refl })

    -- the foil alone goes the same way
    pub call-view : call_on r c (view k m) ≡ shown_by (view k) called
    call-view = called-shown.is

    pub call-others : Stands r k called.state × Others k m called.state
    call-others = called-shown.kept
