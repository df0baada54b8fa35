-- The nets of a list, one after the other: what those before net i have left, net i goes on from.
use Prim.Native.Nat.{ℕ, suc, ◌+◌, ◌-◌, ◌*◌, ◌/◌, ◌≤◌}
use native.Mathlib.Omega.{arith}
use native.Mathlib.Nat.{zero-add}
use native.Mathlib.Numerals.{add-one}
use mathlib.Core.Path.{◌≡◌, refl, sym, ap, ap₂, ◌∙◌, subst, subst₂}
use mathlib.Core.Bool.{Bool, true, false, ◌||◌, or-false}
use mathlib.Core.List.{List, [], ◌∷◌, ◌++◌, map, append-nil, append_assoc}
use lib.ListN.{length, take, drop, length-append, length-drop, length-map, drop_of_length-le}
use lib.Seq.{take_all, take_at, drop_at, drop-drop}
use Rattle.foil_spec.specs.Lists.{range, each, any}
use Rattle.foil_spec.specs.Limits.{max_entries}
use Rattle.foil_spec.specs.Foil.{Point}
use Rattle.foil_spec.specs.Ledger.{Room, with_output, short, Step, lay, Answer, After, ledger_step}
use Rattle.foil_spec.specs.Lent.{Lent, lent, held, sound, room_in, step_on, over_front, numbers_out}
use Rattle.foil_spec.specs.Lent.{room_left}
use Rattle.foil_spec.specs.Wishes.{wish_at, wishes}
use Rattle.foil_spec.specs.Calls.{in_front, act_each}
use Rattle.foil_spec.specs.declared.Board.{Board}
use Rattle.list_laws.proofs.Tests.{any_append}
use Rattle.list_laws.proofs.Members.{each_append, map_last, length-range}
use Rattle.ledger_laws.proofs.Outputs.{out-is}
use Rattle.ledger_laws.proofs.Replies.{each_keeps}
use Rattle.ledger_laws.proofs.Stored.{sound-store}
use Rattle.ledger_laws.proofs.Kept.{step_kept}
use Rattle.ledger_laws.proofs.Steps.{shown, step_is}
use Rattle.ledger_laws.proofs.Sound.{of-sound, sound-store-is, sound-long}
use Rattle.foil.specs.Contract.{Answer as Answered, answer_of, Wrote, OutputIn}
use Rattle.foil.proofs.Giving.{long-room, limit_is, output-is}
use Rattle.std.specs.Prelude.{is_ok}
use Rattle.listing.specs.Contract.{in_numbers, place_numbers, answer_numbers, took, ListIn}
use Rattle.listing.specs.Parts.{lay_of, Fits, PutAt, laid_to, LaidBy, MayLay, GoesOn}
use Rattle.listing.specs.declared.InNumbers.{InNumbers}
use Rattle.listing.specs.declared.Listed.{Listed}
use Rattle.listing.specs.declared.Wish.{Wish}
use Rattle.listing.proofs.Answering.{LayTold, lay-told, numbers_fit, uses, uses-few}

-- ---- a step after others

-- the room after some answers
abbrev left_by : List Answer → Room → Room
left_by given r = with_output r (r.output - length (each numbers_out given))

module _ {S : Type 0} (act : Room → Step → S → After Answer S) where
  -- what the step s does after them
  abbrev after : Step → Room → After (List Answer) S → After Answer S
  after s r a = act (left_by a.answer r) s a.state

  more : After (List Answer) S → After Answer S → After (List Answer) S
  more a b = record { answer = a.answer ++ (b.answer ∷ []); state = b.state }

  each_last : (ss : List Step) (s : Step) (r : Room) (x : S)
      → act_each act r (ss ++ (s ∷ [])) x ≡ more (act_each act r ss x) (after s r (act_each act r ss x))
  unfolding act_each in_front more room_left
  each_last [] s r x =
      let same : r.output - 0 ≡ r.output = omega arith in
      ap (λ (n : ℕ). record { answer = (act (with_output r n) s x).answer ∷ []; state = (act (with_output r n) s x).state })
      (sym same)
  each_last (t ∷ ss) s r x =
      let a : After Answer S = act r t x in
      let b : After (List Answer) S = act_each act (room_left a.answer r) ss a.state in
      let left : r.output - length (numbers_out a.answer) - length (each numbers_out b.answer)
      ≡ r.output - length (numbers_out a.answer ++ each numbers_out b.answer) =
      omega (arith, length-append (numbers_out a.answer) (each numbers_out b.answer)) in
      ap (in_front a) (each_last ss s (room_left a.answer r) a.state)
      ∙ ap
      (λ (n : ℕ).
      record {
        answer = a.answer ∷ (b.answer ++ ((act (with_output r n) s b.state).answer ∷ []));
        state = (act (with_output r n) s b.state).state;
      })
      left

-- ---- wish i after those before it

module _ (r : Room) (ws : List ℕ) (i : ℕ) (m : Lent) where
  -- what these did, and what wish i does then
  abbrev so_far : After (List Answer) Lent
  so_far = laid_to r ws i m

  abbrev room : Room
  room = left_by so_far.answer r

  abbrev now : After Answer Lent
  now = step_on room (wish_at ws i) so_far.state

  laid_more : laid_to r ws (i + 1) m ≡ more step_on so_far now
  laid_more =
      ap (λ (k : ℕ). laid_to r ws k m) (add-one i)
      ∙ ap (λ (ss : List Step). act_each step_on r ss m) (map_last (wish_at ws) 0 i)
      ∙ ap (λ (k : ℕ). act_each step_on r (map (wish_at ws) (range 0 i) ++ (wish_at ws k ∷ [])) m) (zero-add i)
      ∙ each_last step_on (map (wish_at ws) (range 0 i)) (wish_at ws i) r m

pub laid_none : (r : Room) (ws : List ℕ) (b : Board) (t s out ans : List ℕ)
    → LaidBy (laid_to r ws 0 (lent b t s)) out ans (record { used = 0; laid = false }) b t s out ans
unfolding act_each over_front
laid_none r ws b t s out ans = record { state = refl; used = refl; laid = refl; output = refl; answers = refl }

-- ---- the lists after one more

-- numbers after those that stand at the front
front-more : (xs ys old : List ℕ) (k n : ℕ) → k ≡ length xs → n ≡ k + length ys
    → take k (over_front xs old) ++ (ys ++ drop n (over_front xs old)) ≡ over_front (xs ++ ys) old
unfolding over_front
front-more xs ys old k n e f =
    rw (e, f, e)
    (ap₂ (λ (us vs : List ℕ). us ++ (ys ++ vs)) (take_at xs (drop (length xs) old) (length xs) refl)
    (sym (drop-drop (length ys) (length xs) (xs ++ drop (length xs) old))
    ∙ ap (drop (length ys)) (drop_at xs (drop (length xs) old) (length xs) refl)
    ∙ drop-drop (length ys) (length xs) old)
    ∙ ap (λ (j : ℕ). xs ++ (ys ++ drop j old)) (sym (length-append xs ys))
    ∙ sym (append_assoc xs ys _))

-- each answer has its place
places : (given : List Answer) → length (each answer_numbers given) ≡ length given * 3
unfolding answer_numbers place_numbers
places [] = refl
places (a ∷ given) = omega (arith, places given)

answered : {S : Type 0} (act : Room → Step → S → After Answer S) (ss : List Step) (r : Room) (x : S)
    → length (act_each act r ss x).answer ≡ length ss
unfolding act_each in_front
answered act [] r x = refl
answered act (s ∷ ss) r x = ap suc (answered act ss _ _)

count : (ws : List ℕ) (i : ℕ) → length (map (wish_at ws) (range 0 i)) ≡ i
count ws i = length-map (range 0 i) (wish_at ws) ∙ length-range 0 i

each-one : (f : Answer → List ℕ) (given : List Answer) (a : Answer)
    → each f (given ++ (a ∷ [])) ≡ each f given ++ f a
each-one f given a = each_append f given (a ∷ []) ∙ ap (λ (xs : List ℕ). each f given ++ xs) (append-nil (f a))

-- a list from a place on, to its end
to_the_end : (k : ℕ) (l : List ℕ) → take (length l - k) (drop k l) ≡ drop k l
to_the_end k l = take_all (length l - k) (drop k l) (omega (arith, length-drop k l))

none_after : (k : ℕ) (l : List ℕ) → drop (length l - k) (drop k l) ≡ []
none_after k l = drop_of_length-le (drop k l) {i = length l - k} (omega (arith, length-drop k l))

-- ---- one more

module _ (limit : ℕ) (ws : List ℕ) (i : ℕ) (d : Listed) (b : Board) (t s out ans : List ℕ)
    (may : MayLay limit ws i d b t s out ans) (w : Wish) (is : lay_of w ≡ wish_at ws i) (done : Answered) (b' : Board)
    (t' s' part : List ℕ)
    (Did-so : OutputIn (lay w.net w.from w.to) limit (lent b t s)
    (take (length out - d.used) (drop d.used out)) done b' t' s' part) where
  abbrev m : Lent
  m = lent b t s

  abbrev net : ℕ
  net = w.net

  abbrev S : Point
  S = w.from

  abbrev T : Point
  T = w.to

  e : OutputIn (lay net S T) limit m (drop d.used out) done b' t' s' part
  e = subst (λ (x : List ℕ). OutputIn (lay net S T) limit m x done b' t' s' part) (to_the_end d.used out) Did-so

  wished : lay net S T ≡ wish_at ws i
  unfolding lay_of
  wished = is

  -- a room that it has
  abbrev own : Room
  own = room_in limit m (length (drop d.used out))

  did : Wrote (lay net S T) own m (drop d.used out) done b' t' s' part
  did = e own (long-room m (sound-long m may.keeps) limit _) (limit_is limit m _) (output-is limit m _)

  told : LayTold own (step_on own (lay net S T) m).answer
  told = lay-told own net S T m

  module _ (n : InNumbers) (said : n ≡ in_numbers done) where
    said-so : n ≡ in_numbers (answer_of (step_on own (lay net S T) m).answer)
    said-so = said ∙ ap in_numbers did.gave.answer

    pub said_fits : Fits n
    said_fits = subst Fits (sym said-so) (numbers_fit own _ told)

    pub used-fits : d.used + n.corners * 2 ≤ length out
    unfolding room_in
    used-fits =
        let most = uses-few own _ told in
        let twice = uses own _ told in
        let same = ap (λ (x : InNumbers). x.corners) said-so in
        let size = length-drop d.used out in
        let enough = may.used in
        omega arith

    module _ (out' ans' : List ℕ)
        (put : out' ≡ take d.used out ++ (part ++ drop (length out - d.used) (drop d.used out)))
        (told_at : PutAt ans i n ans') (d' : Listed)
        (used : d'.used ≡ d.used + n.corners * 2) (laid : d'.laid ≡ (d.laid || is_ok done)) where
      -- after the nets before it, laid in the room r on m₀
      module _ (r : Room) (m₀ : Lent) (out₀ ans₀ : List ℕ) (long : short r ≡ false) (most : r.limit ≡ limit)
          (size : r.output ≡ length out₀) (same : length out ≡ length out₀)
          (h : LaidBy (laid_to r ws i m₀) out₀ ans₀ d b t s out ans) where
        abbrev given : List Answer
        given = (so_far r ws i m₀).answer

        abbrev q : Room
        q = room r ws i m₀

        abbrev x : After Answer Lent
        x = now r ws i m₀

        left_is : q.output ≡ length (drop d.used out)
        left_is = let u = h.used in let z = length-drop d.used out in omega arith

        here : Wrote (wish_at ws i) q (so_far r ws i m₀).state (drop d.used out) done b' t' s' part
        unfolding short
        here =
            subst₂ (λ (z : Step) (v : Lent). Wrote z q v (drop d.used out) done b' t' s' part) wished h.state
            (e q long most left_is)

        x-told : LayTold q x.answer
        x-told =
            subst (λ (z : Step). LayTold q (step_on q z (so_far r ws i m₀).state).answer) wished
            (lay-told q net S T (so_far r ws i m₀).state)

        n-is : n ≡ in_numbers (answer_of x.answer)
        n-is = said ∙ ap in_numbers here.gave.answer

        -- the corners of those before it, and its own
        abbrev us : List ℕ
        us = each numbers_out given

        abbrev ys : List ℕ
        ys = numbers_out x.answer

        part-is : part ≡ ys ++ drop (d.used + length ys) out
        unfolding over_front
        part-is =
            here.output ∙ out-is x.answer (drop d.used out)
            ∙ ap (λ (l : List ℕ). ys ++ l) (drop-drop (length ys) d.used out)

        corners-are : out' ≡ over_front (each numbers_out (given ++ (x.answer ∷ []))) out₀
        corners-are =
            put ∙ ap (λ (l : List ℕ). take d.used out ++ (part ++ l)) (none_after d.used out)
            ∙ ap (λ (l : List ℕ). take d.used out ++ l) (append-nil part ∙ part-is)
            ∙ ap (λ (l : List ℕ). take d.used l ++ (ys ++ drop (d.used + length ys) l)) h.output
            ∙ front-more us ys out₀ d.used (d.used + length ys) h.used refl
            ∙ ap (λ (l : List ℕ). over_front l out₀) (sym (each-one numbers_out given x.answer))

        counted : i * 3 ≡ length (each answer_numbers given)
        counted =
            let a = places given in
            let b = answered step_on (map (wish_at ws) (range 0 i)) r m₀ in
            let c = count ws i in
            omega arith

        answers-are : ans' ≡ over_front (each answer_numbers (given ++ (x.answer ∷ []))) ans₀
        unfolding answer_numbers place_numbers
        answers-are =
            told_at.is
            ∙ ap (λ (z : InNumbers). take (i * 3) ans ++ (place_numbers z ++ drop (i * 3 + 3) ans)) n-is
            ∙ ap (λ (l : List ℕ). take (i * 3) l ++ (answer_numbers x.answer ++ drop (i * 3 + 3) l)) h.answers
            ∙ front-more (each answer_numbers given) (answer_numbers x.answer) ans₀ (i * 3) (i * 3 + 3) counted refl
            ∙ ap (λ (l : List ℕ). over_front l ans₀) (sym (each-one answer_numbers given x.answer))

        used-is : d'.used ≡ length (each numbers_out (given ++ (x.answer ∷ [])))
        used-is =
            let u = h.used in
            let same-n = ap (λ (z : InNumbers). z.corners) n-is in
            let twice = uses q x.answer x-told in
            let one = ap length (each-one numbers_out given x.answer) in
            let both = length-append us ys in
            omega arith

        laid-is : d'.laid ≡ any took (given ++ (x.answer ∷ []))
        unfolding took
        laid-is =
            laid ∙ ap₂ (λ (x y : Bool). x || y) h.laid (ap (λ (z : Answered). is_ok z) here.gave.answer)
            ∙ ap (λ (y : Bool). any took given || y) (sym (or-false (took x.answer)))
            ∙ sym (any_append took given (x.answer ∷ []))

        one_more : LaidBy (more step_on (so_far r ws i m₀) x) out₀ ans₀ d' b' t' s' out' ans'
        unfolding more
        one_more =
            record {
              state = rw (here.gave.board, here.gave.table, here.gave.strips) refl;
              used = used-is;
              laid = laid-is;
              output = corners-are;
              answers = answers-are;
            }

      pub goes_on : GoesOn limit ws i d b t s out ans d' b' t' s' out' ans'
      goes_on =
          record {
            is = λ r m₀ out₀ ans₀ long most size same h.
                subst (λ (a : After (List Answer) Lent). LaidBy a out₀ ans₀ d' b' t' s' out' ans')
                (sym (laid_more r ws i m₀)) (one_more r m₀ out₀ ans₀ long most size same h);
          }

-- ---- the whole list

-- a step leaves a foil that keeps the rules
step-sound : (r : Room) (s : Step) (m : Lent) → sound m ≡ true → sound (step_on r s m).state ≡ true
unfolding shown
step-sound r s m g =
    let k = of-sound m g in
    ap (λ (x : Lent). sound (step_on r s x).state) (sym (sound-store-is m k))
    ∙ ap (λ (a : After Answer Lent). sound a.state) (step_is r s (held m) m k.kept)
    ∙ sound-store (ledger_step r s (held m)).state m (step_kept r s (held m) k.kept)

module _ (limit : ℕ) (ws : List ℕ) (m : Lent) (out ans : List ℕ) (fine : sound m ≡ true) where
  abbrev whole : Room
  whole = room_in limit m (length out)

  laid-sound : (i : ℕ) → sound (laid_to whole ws i m).state ≡ true
  laid-sound i =
      each_keeps step_on (λ x. sound x ≡ true) whole (λ n. step-sound (with_output whole n))
      (map (wish_at ws) (range 0 i)) whole.output m fine

  module _ (i : ℕ) (d : Listed) (b : Board) (t s out' ans' : List ℕ)
      (h : LaidBy (laid_to whole ws i m) out ans d b t s out' ans') where
    pub may-lay : limit ≤ max_entries → d.used ≤ length out' → i * 5 + 5 ≤ length ws → i * 3 + 3 ≤ length ans'
        → MayLay limit ws i d b t s out' ans'
    may-lay few used wish place =
        record {
          keeps = ap sound h.state ∙ laid-sound i;
          few = few;
          used = used;
          wish = wish;
          place = place;
        }

    pub next-net : (d' : Listed) (b' : Board) (t' s' out'' ans'' : List ℕ)
        → GoesOn limit ws i d b t s out' ans' d' b' t' s' out'' ans'' → length out' ≡ length out
        → LaidBy (laid_to whole ws (i + 1) m) out ans d' b' t' s' out'' ans''
    next-net d' b' t' s' out'' ans'' g same =
        g.is whole m out ans (long-room m (sound-long m fine) limit _) (limit_is limit m _) (output-is limit m _) same
        h

    pub list_done : i ≡ length ws / 5 → ListIn limit ws m out ans d.laid b t s out' ans'
    unfolding wishes
    list_done e =
        rw (← e)
        (record {
          board = ap (λ (x : Lent). x.board) h.state;
          table = ap (λ (x : Lent). x.table) h.state;
          strips = ap (λ (x : Lent). x.strips) h.state;
          laid = h.laid;
          output = h.output;
          answers = h.answers;
        })
