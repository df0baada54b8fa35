-- Booking a path that was searched, return by return, and the steps that end by it.
use Prim.Native.Nat.{ℕ, ◌+◌, ◌-◌, ◌*◌, ◌/◌, ◌≤◌, ◌<◌, min, max}
use native.Mathlib.Omega.{arith}
use mathlib.Core.Path.{◌≡◌, refl, sym, ap, ap₂, ◌∙◌, subst}
use mathlib.Core.Bool.{Bool, true, false}
use mathlib.Core.List.{List, [], ◌∷◌, ◌++◌}
use mathlib.Core.Option.{Option, none, some}
use lib.ListN.{length, take, drop}
use lib.Seq.{take_at}
use borrow.Author.Tests.{lt-ltb, le-ltb}
use Rattle.foil_spec.specs.Lists.{each}
use Rattle.foil_spec.specs.Limits.{max_entries}
use Rattle.foil_spec.specs.Foil.{Point, Layout, net_ok}
use Rattle.foil_spec.specs.Paths.{is_way, first_path_to, bends}
use Rattle.foil_spec.specs.Corners.{point_numbers, corners_in}
use Rattle.foil_spec.specs.Ledger.{no_path, Room, short, corner_room, too_long, is_too_fine, Step, ◌⇒◌, first}
use Rattle.foil_spec.specs.Ledger.{After, settle, Answer, laid}
use Rattle.foil_spec.specs.Lent.{Lent, lent, store, over_front, held, sound, step_on, output_after}
use Rattle.foil_spec.specs.declared.Board.{Board}
use Rattle.list_laws.proofs.Tests.{clash}
use Rattle.path_laws.proofs.Laws.{gives-first}
use Rattle.path_laws.proofs.Ways.{path-way}
use Rattle.ledger_laws.proofs.Stored.{length-points}
use Rattle.ledger_laws.proofs.CornerLists.{corners-read}
use Rattle.tables.specs.Booked.{Stored, Unchanged}
use Rattle.std.specs.Prelude.{Ok, Err, Some}
use Rattle.std.specs.Prelude.{Option as Counted}
use Rattle.foil.specs.Contract.{answer_of, Gave, OutputIn}
use Rattle.foil.specs.Contract.{Answer as Told}
use Rattle.foil.specs.declared.Accepted.TheVariants.{Laid}
use Rattle.foil.proofs.Giving.{gave-refused}
use Rattle.booking.specs.Booking.{with_legs, MayBook}
use Rattle.booking.specs.Tracks.{most_corners, MayTrack, corners_on, AtFront, Searched}
use Rattle.booking.specs.Tracks.{track_refusals, track_laid, Tracked}
use Rattle.booking.proofs.Booking.{entries-count}

-- ---- what a search gives

-- where a corner is counted there is a path
some-path : (o : Option (List Point)) (k : ℕ) → 1 ≤ k → k ≡ length (corners_on o) → no_path o ≡ false
unfolding no_path
some-path none k l n = absurd (omega (arith, l, n))
some-path (some cs) k l n = refl

-- a first path is a way
first_way : (f : ℕ → ℕ → Bool) (w h : ℕ) → ((x y : ℕ) → f x y ≡ true → (x < w) × (y < h)) → (S : Point)
    → (T : Point → Bool) → (o : Option (List Point)) → first_path_to f w h S T ≡ o → no_path o ≡ false
    → is_way f (corners_on o) ≡ true
unfolding no_path
first_way f w h inside S T none e p = clash refl p
first_way f w h inside S T (some cs) e p = path-way f S T cs (gives-first f w h inside S T cs e).path

-- the corners that are read are those of the path
read-path : {o : Option (List Point)} {path : List ℕ} {k : ℕ} → AtFront o path k → k ≤ most_corners
    → corners_in path k ≡ corners_on o
read-path {o} {path} {k} p few =
    let front = p.corners few in
    ap (λ (u : List ℕ). corners_in u k) front.1
    ∙ ap (corners_in (each point_numbers (corners_on o) ++ front.0)) p.count
    ∙ corners-read (corners_on o) front.0

-- a first path that was searched over the points of the foil that are clear for a net may be booked for it
pub may-track : (m : Lent) (net : ℕ) (path : List ℕ) (found : Counted ℕ) (f : ℕ → ℕ → Bool)
    → ((x y : ℕ) → f x y ≡ true → (x < (held m).width) × (y < (held m).height))
    → (S : Point) (T : Point → Bool) → sound m ≡ true → net_ok net ≡ true → most_corners * 2 ≤ length path
    → Searched (first_path_to f (held m).width (held m).height S T) path found → MayTrack m net path found
may-track m net path found f inside S T fine allowed long p =
    record {
      fine = fine;
      allowed = allowed;
      long = long;
      clear = f;
      inside = inside;
      way = λ k e few.
          let q = p.corners k e in
          ap (is_way f) (read-path q few)
          ∙ first_way f (held m).width (held m).height inside S T _ refl (some-path _ k q.some q.count);
    }

-- ---- the booking

module _ (b : Board) (t s ks : List ℕ) (net limit : ℕ) (limited : limit ≤ max_entries) (path : List ℕ)
    (found : Counted ℕ) (y : MayTrack (lent b t s) net path found) where
  abbrev m : Lent
  m = lent b t s

  abbrev l : Layout
  l = held m

  -- what the booking is to leave, whatever path was searched
  abbrev Gives : Option (List Point) → Told → Board → List ℕ → List ℕ → List ℕ → Type 0
  Gives o r b' t' s' ks' = Tracked net limit o m ks r b' t' s' ks'

  -- the first refusal that applies, in each room of the limit and the output list
  abbrev Meets : Option (List Point) → Option ℕ → Type 0
  Meets o a =
      (room : Room) → room.limit ≡ limit → room.output ≡ length ks → first (track_refusals room net o m) ≡ a

  turned_down : (o : Option (List Point)) (n : ℕ) → Meets o (some n) → Gives o (Err n) b t s ks
  unfolding settle output_after
  turned_down o n h =
      record {
        gave = λ room is out. gave-refused _ _ m n (h room is out);
        output = λ room is out. rw (h room is out) refl;
      }

  pub no-path : (o : Option (List Point)) → no_path o ≡ true → Gives o (Err 9) b t s ks
  unfolding first
  no-path o p = turned_down o 9 (λ room is out. rw p refl)

  -- there is one, of k corners
  module _ (k : ℕ) (found-is : found ≡ Some k) where
    module _ (n : ℕ) (n-is : n ≡ max 1 (k - 1)) (fits : b.entries + n ≤ limit) where
      -- the corners are no more than a table can take
      few : k ≤ most_corners
      few = omega (arith, limited)

      pub path-long : k * 2 ≤ length path
      path-long = omega (arith, few, y.long)

      pub may-book : MayBook m net path k
      may-book =
          record {
            fine = y.fine;
            allowed = y.allowed;
            long = path-long;
            clear = y.clear;
            inside = y.inside;
            way = y.way k found-is few;
            room = omega (arith, limited);
          }

    module _ (o : Option (List Point)) (p : AtFront o path k) where
      abbrev cs : List Point
      cs = corners_on o

      there-is : no_path o ≡ false
      there-is = some-path o k p.some p.count

      pub few-corners : length ks / 2 < k → Gives o (Err 12) b t s ks
      unfolding first corner_room
      few-corners h =
          turned_down o 12
          (λ room is out. rw (
            there-is,
            lt-ltb (room.output / 2) (length cs) (omega (arith, p.count, out)),
          ) refl)

      entries-after : length (with_legs l net cs).entries ≡ b.entries + max 1 (k - 1)
      entries-after =
          entries-count m net cs (omega (arith, p.count, p.some))
          ∙ ap (λ (n : ℕ). b.entries + max 1 (n - 1)) (sym p.count)

      module _ (fit : k ≤ length ks / 2) where
        pub table-full : (n : ℕ) → n ≡ max 1 (k - 1) → limit < b.entries + n → Gives o (Err 10) b t s ks
        unfolding first corner_room too_long
        table-full n e h =
            turned_down o 10
            (λ room is out. rw (
              there-is,
              le-ltb (room.output / 2) (length cs) (omega (arith, p.count, out)),
              lt-ltb (min max_entries room.limit) (length (with_legs l net cs).entries)
                  (omega (arith, entries-after)),
            ) refl)

        module _ (n : ℕ) (n-is : n ≡ max 1 (k - 1)) (fits : b.entries + n ≤ limit) where
          -- only 11 is left
          from-11 : (room : Room) → room.limit ≡ limit → room.output ≡ length ks
              → first (track_refusals room net o m) ≡ first ((is_too_fine (with_legs l net cs) ⇒ 11) ∷ [])
          unfolding first corner_room too_long
          from-11 room is out =
              rw (
                there-is,
                le-ltb (room.output / 2) (length cs) (omega (arith, p.count, out)),
                le-ltb (min max_entries room.limit) (length (with_legs l net cs).entries)
                    (omega (arith, entries-after, limited)),
              ) refl

          layout_is : with_legs l net (corners_in path k) ≡ with_legs l net cs
          layout_is = ap (with_legs l net) (read-path p (few n n-is fits))

          pub too_fine : (t' s' : List ℕ) → Unchanged (with_legs l net (corners_in path k)) t s t' s'
              → Gives o (Err 11) b t' s' ks
          unfolding first
          too_fine t' s' u =
              let n = subst (λ (x : Layout). Unchanged x t s t' s') layout_is u in
              let w = turned_down o 11 (λ room is out. from-11 room is out ∙ rw n.many refl) in
              record {
                gave = λ room is out.
                    let g = w.gave room is out in
                    record {
                      answer = g.answer;
                      board = g.board;
                      table = n.table ∙ g.table;
                      strips = n.strips ∙ g.strips;
                    };
                output = w.output;
              }

          -- copied to the corner list, the corners stand at its front
          copied-corners : take (k * 2) path ++ drop (k * 2) ks
              ≡ each point_numbers cs ++ drop (length (each point_numbers cs)) ks
          copied-corners =
              let front = p.corners (few n n-is fits) in
              let ps : List ℕ = each point_numbers cs in
              let e : k * 2 ≡ length ps = omega (arith, length-points cs, p.count) in
              ap₂ {A = List ℕ} {B = List ℕ} {C = List ℕ} (λ a c. a ++ c)
              (ap (take (k * 2)) front.1 ∙ take_at ps front.0 (k * 2) (sym e))
              (ap (λ (j : ℕ). drop j ks) e)

          pub laid_done : (after : Board) (t' s' ks' : List ℕ) (j : ℕ) → j ≡ k - 2
              → Stored (with_legs l net (corners_in path k)) t s t' s' after
              → ks' ≡ take (k * 2) path ++ drop (k * 2) ks
              → Gives o (Ok (Laid k j)) after t' s' ks'
          unfolding settle answer_of store output_after over_front first bends
          laid_done after t' s' ks' j j-is u q =
              let d = subst (λ (x : Layout). Stored x t s t' s' after) layout_is u in
              let e : j ≡ length cs - 2 = j-is ∙ ap (λ (i : ℕ). i - 2) p.count in
              record {
                gave = λ room is out.
                    subst (λ (a : After Answer Lent). Gave a (Ok (Laid k j)) after t' s')
                    (sym (taken d room is out))
                    (record {
                      answer = λ i. Ok (Laid (p.count i) (e i));
                      board = d.board;
                      table = d.table;
                      strips = d.strips;
                    });
                output = λ room is out.
                    q ∙ copied-corners
                    ∙ sym (ap (λ (a : After Answer Lent). output_after a.answer ks) (taken d room is out));
              }
            where
              taken : Stored (with_legs l net cs) t s t' s' after → (room : Room) → room.limit ≡ limit
                  → room.output ≡ length ks
                  → track_laid room net o m
                  ≡ record { answer = laid cs (bends cs); state = store (with_legs l net cs) m }
              taken d room is out =
                  let unrefused : first (track_refusals room net o m) ≡ none =
                  from-11 room is out ∙ rw d.fine refl in
                  rw unrefused refl

-- a step of which a search is left does what comes of its path
pub step-tracked : (c : Step) (net limit : ℕ) (o : Option (List Point)) (m : Lent) (ks : List ℕ)
    → ((room : Room) → short room ≡ false → step_on room c m ≡ track_laid room net o m) → (r : Told)
    → (b' : Board) (t' s' ks' : List ℕ) → Tracked net limit o m ks r b' t' s' ks' → OutputIn c limit m ks r b' t' s' ks'
step-tracked c net limit o m ks is r b' t' s' ks' p room long fits out =
    record {
      gave =
          subst (λ (a : After Answer Lent). Gave a r b' t' s') (sym (is room long)) (p.gave room fits out);
      output =
          p.output room fits out ∙ ap (λ (a : After Answer Lent). output_after a.answer ks) (sym (is room long));
    }
