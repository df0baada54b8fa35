-- The sweep of a row: a box from place j of the row's list on ends at or before the column that the sweep stands at.
use Prim.Native.Nat.{ℕ, ◌+◌, ◌-◌, ◌≤◌, ◌<◌, max}
use native.Mathlib.Omega.{arith}
use mathlib.Core.Path.{◌≡◌, refl, sym, ap, ◌∙◌}
use mathlib.Core.Bool.{Bool, true, false}
use mathlib.Core.List.{List, ◌∷◌}
use mathlib.Core.Logic.{◌⊎◌, ⊎_elim, inl, inr}
use lib.ListN.{get_or}
use Rattle.std.specs.Prelude.{Some, None}
use Rattle.foil_spec.specs.Strips.{Run, run, runs_from, row_of}
use Rattle.foil_spec.specs.Lent.{entry_at}
use Rattle.list_laws.proofs.Tests.{both, lt-or-le}
use Rattle.zones.specs.Boxes.{covers, box_free, Covered, Boxes}
use Rattle.zones.proofs.Free.{inside-yes, inside-below, inside-above, of-inside, covers-yes, off-column, off-row}
use Rattle.zones.proofs.Free.{box-free-at, covered-at}
use Rattle.strip_laws.specs.Rules.{Stop}
use Rattle.strip_laws.proofs.Runs.{skip, take-run, outside-past}
use Rattle.strips.specs.Rows.{is_on_row}
use Rattle.strips.specs.RowBoxes.{listed_box, OnRow}
use Rattle.strips.specs.Sweep.{Behind, Sweep}
use Rattle.strips.specs.declared.sweep.Swept.{Swept}

abbrev pub found : ℕ → ℕ → ℕ → ℕ → Swept
found a b e j = record { from = a; to = b; behind = e; left = j }

-- the sweep at column `at`, with j boxes to come: the columns from x up to there are blocked
pub record Sweeping (t o : List ℕ) (n m w y x at j : ℕ) : Type 0 where
  pub from : x ≤ at
  pub le : at ≤ w
  pub jm : j ≤ m
  pub blocked : (u : ℕ) → x ≤ u → u < at → Covered t n u y
  pub behind : Behind t o m at j

module _ (t o : List ℕ) (n m w h y x : ℕ) where
  pub sweeping-start : (j : ℕ) → x ≤ w → j ≤ m → Behind t o m x j → Sweeping t o n m w y x x j
  sweeping-start j l b e =
      record { from = omega arith; le = l; jm = b; blocked = λ u p q. absurd (omega arith); behind = e }

  module _ (tab : Boxes t n w h) (row : OnRow t o n m y) where
    -- the boxes of the list have points of the row
    on_row : (j : ℕ) → j < m → is_on_row (listed_box t o j) y ≡ true
    on_row j l =
        inside-yes _ _ _ (omega (arith, row.come j l, row.below j l, tab.few)) (omega (arith, row.ends j l))

    module _ (at j : ℕ) (s : Sweeping t o n m w y x at j) where
      -- the next box has the column, or ends before it
      pub sweeping-on : 0 < j → (listed_box t o (j - 1)).x0 ≤ at → (r : ℕ) → r ≡ max at (listed_box t o (j - 1)).x1
          → Sweeping t o n m w y x r (j - 1)
      sweeping-on pos low r q =
          record {
            from = omega (arith, s.from);
            le = omega (arith, s.le, tab.x-end (get_or o (j - 1) 0) (row.below (j - 1) in_list));
            jm = omega (arith, s.jm);
            blocked = λ u a b.
                ⊎_elim
                (λ g. s.blocked u a g)
                (λ g.
                record {
                  place = get_or o (j - 1) 0;
                  lt = row.below (j - 1) in_list;
                  yes =
                      covers-yes (listed_box t o (j - 1)) u y (inside-yes _ _ _ (omega arith) (omega arith))
                      (on_row (j - 1) in_list);
                })
                (lt-or-le u at);
            behind = λ p a b.
                ⊎_elim (λ g. here p (omega arith)) (λ g. omega (arith, s.behind p g b)) (lt-or-le p j);
          }
        where
          in_list : j - 1 < m
          in_list = omega (arith, s.jm)

          here : (p : ℕ) → p ≡ j - 1 → (listed_box t o p).x1 ≤ r
          here p e = omega (arith, ap (λ (i : ℕ). (listed_box t o i).x1) e)

      -- what the sweep finds
      module _ (yh : y < h) where
        abbrev free : ℕ → Bool
        free = row_of (box_free w h n t) y

        blocked-row : (u : ℕ) → x ≤ u → u < at → free u ≡ false
        blocked-row u a b = covered-at w h n t u y (s.blocked u a b)

        pub sweep-none : w ≤ at → Sweep free t o m w x None
        sweep-none l =
            let q : w ≡ x + (w - x) = omega (arith, s.from, s.le) in
            record {
              blocked = λ u a b. blocked-row u a (omega arith);
              next =
                  skip free w (w - x) x (omega (arith, s.from, s.le)) (λ u a c. blocked-row u a (omega arith))
                  ∙ ap (runs_from free w) (sym q)
                  ∙ outside-past free w w (omega arith);
            }

        module _ (lt : at < w) where
          -- a column from `at` on that none of the first j boxes has
          clear_of : (u : ℕ) → at ≤ u → ((p : ℕ) → p < j → u < (listed_box t o p).x0)
              → (k : ℕ) → (p : ℕ) × (p < m) × (get_or o p 0 ≡ k) → covers (entry_at t k) u y ≡ false
          clear_of u a far k (p, pm, e) = ⊎_elim (λ g. ahead g) (λ g. passed g) (lt-or-le p j)
            where
              passed : j ≤ p → covers (entry_at t k) u y ≡ false
              passed g =
                  let z : (entry_at t k).x1 ≤ at = rw e at (s.behind p g pm) in
                  off-column (entry_at t k) u y (inside-above _ _ _ (omega arith))

              ahead : p < j → covers (entry_at t k) u y ≡ false
              ahead g =
                  let z : u < (entry_at t k).x0 = rw e at (far p g) in
                  off-column (entry_at t k) u y (inside-below _ _ _ z)

          clear-box : (u : ℕ) → at ≤ u → ((p : ℕ) → p < j → u < (listed_box t o p).x0)
              → (k : ℕ) → k < n → covers (entry_at t k) u y ≡ false
          clear-box u a far k l =
              both (is_on_row (entry_at t k) y)
              (λ c.
              let i = of-inside (entry_at t k).y0 (entry_at t k).y1 y c in
              clear_of u a far k (row.listed k l (omega (arith, i.0)) (omega (arith, i.1))))
              (λ c. off-row (entry_at t k) u y c)

          clear-row : (u : ℕ) → at ≤ u → u < w → ((p : ℕ) → p < j → u < (listed_box t o p).x0) → free u ≡ true
          clear-row u a b far = box-free-at w h n t u y b yh (clear-box u a far)

          found-run : (b e i : ℕ) → at < b → Stop free w at b → b ≤ e → e ≤ w
              → ((u : ℕ) → b ≤ u → u < e → free u ≡ false) → (e ≡ w) ⊎ (free (e - 1) ≡ false) → i ≤ m
              → Behind t o m e i
              → Sweep free t o m w x (Some (found at b e i))
          found-run b e i gt st be ew gap edge im far =
              let q : at ≡ x + (at - x) = omega (arith, s.from) in
              let p : e ≡ b + (e - b) = omega arith in
              record {
                from = s.from;
                gt = gt;
                blocked = blocked-row;
                stop = st;
                be = be;
                ew = ew;
                gap = gap;
                edge = edge;
                next =
                    skip free w (at - x) x (omega (arith, s.from, s.le)) (λ u a c. blocked-row u a (omega arith))
                    ∙ ap (runs_from free w) (sym q)
                    ∙ take-run free w at b gt st
                    ∙ ap (λ (l : List Run). run at b ∷ l)
                    (skip free w (e - b) b (omega arith) (λ u a c. gap u a (omega arith))
                    ∙ ap (runs_from free w) (sym p));
                jm = im;
                behind = far;
              }

          -- no box is left
          pub sweep-last : j ≡ 0 → Sweep free t o m w x (Some (found at w w 0))
          sweep-last q =
              found-run w w 0 lt
              (record {
                ge = omega arith;
                le = omega arith;
                passes = λ u a b. clear-row u a b (λ p g. absurd (omega arith));
                ends = inl refl;
              })
              (omega arith) (omega arith) (λ u a b. absurd (omega arith)) (inl refl)
              (omega arith)
              (λ p a b. omega (arith, s.behind p (omega arith) b))

          -- the next box, from b up to e, begins after `at`
          pub sweep-run : 0 < j → (b e : ℕ) → b ≡ (listed_box t o (j - 1)).x0 → e ≡ (listed_box t o (j - 1)).x1 → at < b
              → Sweep free t o m w x (Some (found at b e (j - 1)))
          sweep-run pos b e qb qe low =
              let lx : b < e = omega (arith, tab.x-order (get_or o (j - 1) 0) in_table) in
              let ew : e ≤ w = omega (arith, tab.x-end (get_or o (j - 1) 0) in_table) in
              found-run b e (j - 1) low
              (record {
                ge = omega arith;
                le = omega arith;
                passes = λ u a c.
                    clear-row u a (omega arith)
                    (λ p g. omega (arith, row.falling p (j - 1) (omega arith) in_list));
                ends = inr (taken b (omega arith) lx);
              })
              (omega arith) ew taken (inr (taken (e - 1) (omega arith) (omega arith))) (omega (arith, s.jm))
              (λ p a c. ⊎_elim (λ g. here p (omega arith)) (λ g. omega (arith, s.behind p g c)) (lt-or-le p j))
            where
              in_list : j - 1 < m
              in_list = omega (arith, s.jm)

              in_table : get_or o (j - 1) 0 < n
              in_table = row.below (j - 1) in_list

              taken : (u : ℕ) → b ≤ u → u < e → free u ≡ false
              taken u a c =
                  covered-at w h n t u y
                  (record {
                    place = get_or o (j - 1) 0;
                    lt = in_table;
                    yes =
                        covers-yes (listed_box t o (j - 1)) u y (inside-yes _ _ _ (omega arith) (omega arith))
                        (on_row (j - 1) in_list);
                  })

              here : (p : ℕ) → p ≡ j - 1 → (listed_box t o p).x1 ≤ e
              here p q = omega (arith, ap (λ (i : ℕ). (listed_box t o i).x1) q)

-- where the sweep is left: at the end of the row, or with no box to come
pub record LeftAt (t o : List ℕ) (n m w y x at : ℕ) : Type 0 where
  pub j : ℕ
  pub sweeping : Sweeping t o n m w y x at j
  pub why : (w ≤ at) ⊎ (j ≡ 0)

module _
    (t o : List ℕ) (n m w h y x at : ℕ) (tab : Boxes t n w h) (row : OnRow t o n m y) (yh : y < h)
    (l : LeftAt t o n m w y x at) where
  pub left-run : at < w → Sweep (row_of (box_free w h n t) y) t o m w x (Some (found at w w 0))
  left-run lt =
      ⊎_elim
      (λ q. absurd (omega arith))
      (λ q. sweep-last t o n m w h y x tab row at l.j l.sweeping yh lt q)
      l.why

  pub left-none : w ≤ at → Sweep (row_of (box_free w h n t) y) t o m w x None
  left-none q = sweep-none t o n m w h y x tab row at l.j l.sweeping yh q
