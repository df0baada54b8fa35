-- The plain ledger: the steps, their refusals in order, and what an accepted step leaves and answers.
use Rattle.std.specs.Prelude.{ℕ, suc, ◌/◌, min, max, Bool, cond, true, false, not, ◌&&◌, ◌||◌, List, [], ◌∷◌, ◌++◌, leb, ltb, length, take}
use Rattle.std.proofs.Math.Option.{Option, none, some, get_or}
use Rattle.foil_spec.specs.Lists.{range, keep, any}
use Rattle.foil_spec.specs.Limits.{max_entries, max_strips, report_places}
use Rattle.foil_spec.specs.Foil.{Point, Entry, entry, Pen, pen, Layout}
use Rattle.foil_spec.specs.Foil.{size_ok, reach_ok, pen_ok, net_ok, box_ok, entry_ok, blocks, over_leg, under_patch}
use Rattle.foil_spec.specs.Foil.{patch_margin, free}
use Rattle.foil_spec.specs.Strips.{Strip, strips, place_of}
use Rattle.foil_spec.specs.Paths.{first_path, first_path_to, is_way, bends}
use Rattle.foil_spec.specs.Corners.{drawn}
use Rattle.foil_spec.specs.Nets.{of_net, in_use, legs_of}
use Rattle.foil_spec.specs.Saving.{job_of}
use Rattle.foil_spec.specs.Slip.{slip_of}
use Rattle.foil_spec.specs.Carrying.{Old, old_short, old_sound, lifted_nets, carried}

-- the strips of a layout
unfoldable pub strips_of : Layout → List Strip
strips_of l = strips (free l) l.width l.height

-- the first path of fewest bends from S to T, if there is a path
unfoldable pub path_of : Layout → Point → Point → Option (List Point)
path_of l S T = first_path (free l) l.width l.height S T

-- there is no path
unfoldable pub no_path : Option (List Point) → Bool
no_path none = true
no_path (some cs) = false

-- the corners of the first path
unfoldable pub corners_of : Layout → Point → Point → List Point
corners_of l S T = get_or (path_of l S T) []

-- the points of the segment from p to q, both ends included, as an entry
unfoldable pub leg : ℕ → Point → Point → Entry
leg net p q =
    entry net (min p.x q.x) (min p.y q.y) (suc (max p.x q.x)) (suc (max p.y q.y))

-- an entry for each segment from p over the corners, in order
unfoldable pub legs_from : ℕ → Point → List Point → List Entry
legs_from net p [] = []
legs_from net p (q ∷ cs) = leg net p q ∷ legs_from net q cs

-- an entry for each leg of a path, or one entry of a single point for one corner
unfoldable pub legs : ℕ → List Point → List Entry
legs net [] = []
legs net (p ∷ []) = leg net p p ∷ []
legs net (p ∷ q ∷ cs) = legs_from net p (q ∷ cs)

-- the layout with another row of entries
abbrev pub with_entries : Layout → List Entry → Layout
with_entries l es = record { width = l.width; height = l.height; pen = l.pen; entries = es }

-- the layout without the net's entries
abbrev pub without : ℕ → Layout → Layout
without net l = with_entries l (keep (λ (e : Entry). not (of_net net e)) l.entries)

-- neither the edge nor an entry of another net blocks the point (x, y)
unfoldable pub free_for : ℕ → Layout → ℕ → ℕ → Bool
free_for net l = free (without net l)

-- one of the net's legs has the point
unfoldable pub on_legs : ℕ → Layout → Point → Bool
on_legs net l p = any (λ (e : Entry). blocks 0 e p.x p.y) (legs_of net l.entries)

-- where a join may end: on one of the net's legs, at a point that is free for the net
unfoldable pub on_net : ℕ → Layout → Point → Bool
on_net net l p = on_legs net l p && free_for net l p.x p.y

-- the first path of fewest bends from S to the net, over points that are free for it, if there is a path
unfoldable pub join_of : ℕ → Layout → Point → Option (List Point)
join_of net l S = first_path_to (free_for net l) l.width l.height S (on_net net l)

-- its corners
unfoldable pub join_corners : ℕ → Layout → Point → List Point
join_corners net l S = get_or (join_of net l S) []

-- the point is not on the foil
unfoldable pub off_foil : Layout → Point → Bool
off_foil l p = leb l.width p.x || leb l.height p.y

-- the point is not free
unfoldable pub blocked : Layout → Point → Bool
blocked l p = not (free l p.x p.y)

-- how many places of the table and of the strip list are lent, how many numbers of an output list, and how many entries
-- the foil may have
pub record Room : Type 0 where
  pub table : ℕ
  pub strips : ℕ
  pub output : ℕ
  pub limit : ℕ

-- the room with so many numbers of output
abbrev pub with_output : Room → ℕ → Room
with_output r n = record { table = r.table; strips = r.strips; output = n; limit = r.limit }

-- the lent table or strip list is too short
unfoldable pub short : Room → Bool
short r = ltb r.table max_entries || ltb r.strips max_strips

-- an output list of corners has two numbers a place
unfoldable pub corner_room : Room → ℕ
corner_room r = r.output / 2

-- there are more entries than the foil may have, and never more than a table has places
unfoldable pub too_long : Room → Layout → Bool
too_long r l = ltb (min max_entries r.limit) (length l.entries)

-- there are more strips than a strip list has places
unfoldable pub is_too_fine : Layout → Bool
is_too_fine l = ltb max_strips (length (strips_of l))

-- some beginning of the row of entries alone has more strips than that
unfoldable pub beginning_too_fine : Layout → Bool
beginning_too_fine l =
    any (λ (n : ℕ). is_too_fine (with_entries l (take n l.entries))) (range 0 (suc (length l.entries)))

-- what a new foil keeps clear: by its pen; or by document 01's reach, which a record without bit 5 gives
pub data Clearance : Type 0 where
  by_pen : Pen → Clearance
  by_reach : ℕ → Clearance

-- the pen that it has then; a reach is the gap of a pen of half width 0
unfoldable pub pen_of : Clearance → Pen
pen_of (by_pen p) = p
pen_of (by_reach d) = pen 0 d

-- the calls that are one step
pub data Step : Type 0 where
  new_foil : ℕ → ℕ → Clearance → Step
  draw : ℕ → ℕ → ℕ → ℕ → Step
  lay : ℕ → Point → Point → Step
  lift : ℕ → Step
  look_up : Point → Step
  put_leg : Entry → Step
  save : Step
  find : Point → Point → Step
  book : ℕ → List ℕ → Step
  slip : Step
  join : ℕ → Point → Step
  carry : Old → Step

-- a refusal number; or accepted, with corners and bends after a lay, a find or a join, with a strip's place after a
-- look up, with the bytes that were written after a save or a slip and the nets after a carry, with the numbers of
-- corners and bends after a booking
pub data Answer : Type 0 where
  refused : ℕ → Answer
  accepted : Answer
  laid : List Point → ℕ → Answer
  found : ℕ → Answer
  wrote : List ℕ → Answer
  booked : ℕ → ℕ → Answer

-- the refusal number, 0 if accepted
unfoldable pub number_of : Answer → ℕ
number_of (refused n) = n
number_of accepted = 0
number_of (laid cs n) = 0
number_of (found n) = 0
number_of (wrote bs) = 0
number_of (booked k n) = 0

-- what an accepted step leaves
unfoldable pub next : Step → Layout → Layout
next (new_foil W H c) l = record { width = W; height = H; pen = pen_of c; entries = [] }
next (draw x0 y0 x1 y1) l = with_entries l (l.entries ++ entry 0 x0 y0 x1 y1 ∷ [])
next (lay net S T) l = with_entries l (l.entries ++ legs net (corners_of l S T))
next (lift net) l = without net l
next (look_up p) l = l
next (put_leg e) l = with_entries l (l.entries ++ e ∷ [])
next save l = l
next (find S T) l = l
next (book net ks) l = with_entries l (l.entries ++ legs net (drawn ks))
next slip l = l
next (join net S) l = with_entries l (l.entries ++ legs net (join_corners net l S))
next (carry o) l = carried o

-- what an accepted step answers
unfoldable pub says : Step → Layout → Answer
says (new_foil W H c) l = accepted
says (draw x0 y0 x1 y1) l = accepted
says (lay net S T) l = laid (corners_of l S T) (bends (corners_of l S T))
says (lift net) l = accepted
says (look_up p) l = found (place_of p (strips_of l))
says (put_leg e) l = accepted
says save l = wrote (job_of l)
says (find S T) l = laid (corners_of l S T) (bends (corners_of l S T))
says (book net ks) l = booked (length (drawn ks)) (bends (drawn ks))
says slip l = wrote (slip_of l)
says (join net S) l = laid (join_corners net l S) (bends (join_corners net l S))
says (carry o) l = wrote (lifted_nets o)

-- a refusal: when it applies, and its number
pub record Refusal : Type 0 where
  pub applies : Bool
  pub number : ℕ

-- where the test passes, the number is answered
infix 4 ◌⇒◌
abbrev pub ◌⇒◌ : Bool → ℕ → Refusal
◌⇒◌ b n = record { applies = b; number = n }

-- the number of the first refusal that applies
unfoldable pub first : List Refusal → Option ℕ
first [] = none
first (r ∷ rs) = cond r.applies (some r.number) (first rs)

-- 20 for a pen that is out of its limits, 2 for a reach
unfoldable pub clearance_refusal : Clearance → Refusal
clearance_refusal (by_pen p) = not (pen_ok p) ⇒ 20
clearance_refusal (by_reach d) = not (reach_ok d) ⇒ 2

-- the step reads what the foil holds; a new foil and a foil that is carried over do not
unfoldable pub reads : Step → Bool
reads (new_foil W H c) = false
reads (draw x0 y0 x1 y1) = true
reads (lay net S T) = true
reads (lift net) = true
reads (look_up p) = true
reads (put_leg e) = true
reads save = true
reads (find S T) = true
reads (book net ks) = true
reads slip = true
reads (join net S) = true
reads (carry o) = false

-- a step's own refusals in their order; the 13 of a carry is about the old foil, and its 10 for a sheet, as the entries
-- that it leaves always fit a table
unfoldable pub refusals : Step → Room → Layout → List Refusal
refusals (new_foil W H c) r l = (not (size_ok W && size_ok H) ⇒ 1) ∷ clearance_refusal c ∷ []
refusals (draw x0 y0 x1 y1) r l =
    (not (box_ok l.width l.height (entry 0 x0 y0 x1 y1)) ⇒ 3)
    ∷ (over_leg (patch_margin l.pen) l.entries (entry 0 x0 y0 x1 y1) ⇒ 21)
    ∷ (too_long r (next (draw x0 y0 x1 y1) l) ⇒ 10)
    ∷ (is_too_fine (next (draw x0 y0 x1 y1) l) ⇒ 11)
    ∷ []
refusals (lay net S T) r l =
    (not (net_ok net) ⇒ 4)
    ∷ (in_use net l.entries ⇒ 5)
    ∷ (off_foil l S || off_foil l T ⇒ 7)
    ∷ (blocked l S || blocked l T ⇒ 8)
    ∷ (no_path (path_of l S T) ⇒ 9)
    ∷ (ltb (corner_room r) (length (corners_of l S T)) ⇒ 12)
    ∷ (too_long r (next (lay net S T) l) ⇒ 10)
    ∷ (is_too_fine (next (lay net S T) l) ⇒ 11)
    ∷ []
refusals (lift net) r l =
    (not (net_ok net) ⇒ 4)
    ∷ (not (in_use net l.entries) ⇒ 6)
    ∷ (is_too_fine (next (lift net) l) ⇒ 11)
    ∷ []
refusals (look_up p) r l = (off_foil l p ⇒ 7) ∷ (blocked l p ⇒ 8) ∷ []
refusals (put_leg e) r l =
    (not (net_ok e.net) ⇒ 4)
    ∷ (not (entry_ok l.width l.height e) ⇒ 3)
    ∷ (under_patch (patch_margin l.pen) l.entries e ⇒ 21)
    ∷ (too_long r (next (put_leg e) l) ⇒ 10)
    ∷ (is_too_fine (next (put_leg e) l) ⇒ 11)
    ∷ []
refusals save r l = (beginning_too_fine l ⇒ 11) ∷ (ltb r.output (length (job_of l)) ⇒ 12) ∷ []
refusals (find S T) r l =
    (off_foil l S || off_foil l T ⇒ 7)
    ∷ (blocked l S || blocked l T ⇒ 8)
    ∷ (no_path (path_of l S T) ⇒ 9)
    ∷ (ltb (corner_room r) (length (corners_of l S T)) ⇒ 12)
    ∷ []
refusals (book net ks) r l =
    (not (net_ok net) ⇒ 4)
    ∷ (in_use net l.entries ⇒ 5)
    ∷ (not (is_way (free l) (drawn ks)) ⇒ 19)
    ∷ (too_long r (next (book net ks) l) ⇒ 10)
    ∷ (is_too_fine (next (book net ks) l) ⇒ 11)
    ∷ []
refusals slip r l = (ltb r.output (length (slip_of l)) ⇒ 12) ∷ []
refusals (join net S) r l =
    (not (net_ok net) ⇒ 4)
    ∷ (not (in_use net l.entries) ⇒ 6)
    ∷ (off_foil l S ⇒ 7)
    ∷ (not (free_for net l S.x S.y) ⇒ 8)
    ∷ (no_path (join_of net l S) ⇒ 9)
    ∷ (ltb (corner_room r) (length (join_corners net l S)) ⇒ 12)
    ∷ (too_long r (next (join net S) l) ⇒ 10)
    ∷ (is_too_fine (next (join net S) l) ⇒ 11)
    ∷ []
refusals (carry o) r l =
    (old_short o ⇒ 12)
    ∷ (ltb r.output report_places ⇒ 12)
    ∷ (not (old_sound o) ⇒ 13)
    ∷ (too_long r (next (carry o) l) ⇒ 10)
    ∷ (is_too_fine (next (carry o) l) ⇒ 11)
    ∷ []

-- a call's own refusals after those for what is lent, which every call begins with; `broken` says that the call reads a
-- state that breaks a rule
unfoldable pub after_lent : Room → Bool → List Refusal → List Refusal
after_lent r broken rs = (short r ⇒ 12) ∷ (broken ⇒ 13) ∷ rs

-- an answer, and the state after it
pub record After (A S : Type 0) : Type 0 where
  pub answer : A
  pub state : S

-- refused by a number, and the state stays as it is; or what an accepted step gives
unfoldable pub settle : {S : Type 0} → Option ℕ → After Answer S → S → After Answer S
settle (some n) done old = record { answer = refused n; state = old }
settle none done old = done

-- the number that turns a step down, if one does; `broken` says that the state breaks a rule
unfoldable pub refusal_of : Room → Bool → Step → Layout → Option ℕ
refusal_of r broken s l = first (after_lent r (broken && reads s) (refusals s r l))

-- the ledger's line for a step; its own state is never broken
unfoldable pub ledger_step : Room → Step → Layout → After Answer Layout
ledger_step r s l = settle (refusal_of r false s l) (record { answer = says s l; state = next s l }) l
