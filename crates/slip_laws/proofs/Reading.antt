-- The line of a net can be read, column by column.
use Prim.Native.Nat.{ℕ, ◌+◌, ◌≤◌}
use native.Mathlib.Omega.{arith}
use mathlib.Core.Path.{◌≡◌, ap, ◌∙◌}
use mathlib.Core.List.{List, [], ◌∷◌, ◌++◌}
use lib.ListN.{length, length-append}
use Rattle.foil_spec.specs.Foil.{Point}
use Rattle.foil_spec.specs.Text.{ascii, decimal}
use Rattle.foil_spec.specs.Slip.{set_right, column, slip_line}
use Rattle.slip_laws.specs.Page.{Stands, LineRight, Narrow}
use Rattle.list_laws.proofs.Digits.{decimal-fits}
use Rattle.slip_laws.proofs.Columns.{right-long, past, blank-at, stands-more}
use Rattle.slip_laws.proofs.Columns.{Item, item-long, item-at, item-more, net-at}

module _ (net legs len : ℕ) (p : Point) (n : Narrow net legs len p) where
  -- the line up to each of its numbers
  abbrev to-net : List ℕ
  to-net = set_right 3 net

  abbrev to-legs : List ℕ
  to-legs = to-net ++ column 3 legs

  abbrev to-length : List ℕ
  to-length = to-legs ++ column 6 len

  abbrev to-x : List ℕ
  to-x = to-length ++ column 4 p.x

  abbrev to-y : List ℕ
  to-y = to-x ++ column 4 p.y

  net-fits : length (decimal net) ≤ 3
  net-fits = decimal-fits 3 net (omega arith) n.net-below

  legs-fit : length (decimal legs) ≤ 3
  legs-fit = decimal-fits 3 legs (omega arith) n.legs-below

  length-fits : length (decimal len) ≤ 6
  length-fits = decimal-fits 6 len (omega arith) n.length-below

  x_fits : length (decimal p.x) ≤ 4
  x_fits = decimal-fits 4 p.x (omega arith) n.x_below

  y-fits : length (decimal p.y) ≤ 4
  y-fits = decimal-fits 4 p.y (omega arith) n.y-below

  net-end : length to-net ≡ 3
  net-end = right-long 3 net net-fits

  legs-end : length to-legs ≡ 8
  legs-end = item-long to-net 3 3 legs net-end legs-fit

  length-end : length to-length ≡ 16
  length-end = item-long to-legs 8 6 len legs-end length-fits

  x-end : length to-x ≡ 22
  x-end = item-long to-length 16 4 p.x length-end x_fits

  y-end : length to-y ≡ 28
  y-end = item-long to-x 22 4 p.y x-end y-fits

  abbrev line : List ℕ
  line = slip_line net legs len p

  pub line-long : length line ≡ 33
  unfolding slip_line
  line-long = length-append to-y (ascii "    \n") ∙ ap (λ (k : ℕ). k + 5) y-end

  -- a number that stands before column 28 of the line up to y, or before column 22 of the line up to x, and so on
  after-y : (j k m : ℕ) → j + 2 + k ≤ 28 → Item to-y j k m → Item line j k m
  unfolding slip_line
  after-y j k m l i = item-more to-y j k m (ascii "    \n") (omega (arith, y-end)) i

  after-x : (j k m : ℕ) → j + 2 + k ≤ 22 → Item to-x j k m → Item line j k m
  after-x j k m l i =
      after-y j k m (omega arith) (item-more to-x j k m (column 4 p.y) (omega (arith, x-end)) i)

  after-length : (j k m : ℕ) → j + 2 + k ≤ 16 → Item to-length j k m → Item line j k m
  after-length j k m l i =
      after-x j k m (omega arith) (item-more to-length j k m (column 4 p.x) (omega (arith, length-end)) i)

  after-legs : (j k m : ℕ) → j + 2 + k ≤ 8 → Item to-legs j k m → Item line j k m
  after-legs j k m l i =
      after-length j k m (omega arith) (item-more to-legs j k m (column 6 len) (omega (arith, legs-end)) i)

  net-in : Stands line 1 3 net
  unfolding slip_line
  net-in =
      let low : 1 ≤ 1 = omega arith in
      stands-more to-y (ascii "    \n") 1 3 net low (omega (arith, y-end))
      (stands-more to-x (column 4 p.y) 1 3 net low (omega (arith, x-end))
      (stands-more to-length (column 4 p.x) 1 3 net low (omega (arith, length-end))
      (stands-more to-legs (column 6 len) 1 3 net low (omega (arith, legs-end))
      (stands-more to-net (column 3 legs) 1 3 net low (omega (arith, net-end)) (net-at 3 net net-fits)))))

  pub line-right : LineRight line net legs len p
  unfolding slip_line
  line-right =
      let second = after-legs 3 3 legs (omega arith) (item-at to-net 3 3 legs net-end legs-fit) in
      let third = after-length 8 6 len (omega arith) (item-at to-legs 8 6 len legs-end length-fits) in
      let fourth = after-x 16 4 p.x (omega arith) (item-at to-length 16 4 p.x length-end x_fits) in
      let fifth = after-y 22 4 p.y (omega arith) (item-at to-x 22 4 p.y x-end y-fits) in
      record {
        long = line-long;
        net-stands = net-in;
        gap-1 = second.gap;
        legs-stand = second.stands;
        gap-2 = third.gap;
        length-stands = third.stands;
        gap-3 = fourth.gap;
        x-stands = fourth.stands;
        gap-4 = fifth.gap;
        y-stands = fifth.stands;
        rest = blank-at to-y (10 ∷ []) 4 29 32 (ap (λ (k : ℕ). k + 1) y-end) (omega arith);
        feed = past to-y (ascii "    \n") 33 4 (omega (arith, y-end));
      }
