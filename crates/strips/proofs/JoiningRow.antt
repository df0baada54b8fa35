-- The loop that joins one row, run by run.
use Prim.Native.Nat.{ℕ, ◌+◌, ◌*◌, ◌-◌, ◌≤◌, ◌<◌}
use native.Mathlib.Omega.{arith}
use mathlib.Core.Path.{◌≡◌, refl, sym, ap, ◌∙◌, subst}
use mathlib.Core.Bool.{Bool, true, false}
use mathlib.Core.List.{List, ◌∷◌, ◌++◌}
use mathlib.Core.Logic.{◌⊎◌, inl, inr}
use lib.ListN.{length, get_or, set, take, drop, length-set}
use Rattle.std.specs.Prelude.{Some, None}
use Rattle.foil_spec.specs.Strips.{run, runs_from, is_run, row_of, is_top, Strip, strip_at, begun, strips_from}
use Rattle.foil_spec.specs.Limits.{max_strips}
use Rattle.zones.specs.Boxes.{box_free}
use Rattle.strip_laws.proofs.Strips.{begun-top, begun-old}
use Rattle.strips.specs.Rows.{Change}
use Rattle.strips.specs.Sweep.{Behind, SweptRun, SweptOut}
use Rattle.strips.specs.Joining.{Joined, JoinsRow, Opened}
use Rattle.strips.proofs.Changing.{rows_next}
use Rattle.strips.proofs.RowToRow.{joined-turn, joined-full}
use Rattle.strips.proofs.RowRuns.{alone, swept-run, joined-none}
use Rattle.strips.proofs.NextRun.{joined-old, joined-new}
use Rattle.strips.proofs.OpenStrips.{new-top, open-x0, open-x1, open-y1, open-old, not-open}

-- the strips that are still to come at column x of row y
abbrev pub ahead : (ℕ → ℕ → Bool) → ℕ → ℕ → ℕ → ℕ → ℕ → List Strip
ahead f w h y z x = begun f w h y (runs_from (row_of f y) w x) ++ strips_from f w h z

-- the row is joined up to column x; out₀, last₀ and c are what it began with
pub record JoiningRow
    (t row : List ℕ) (n m w h y z c : ℕ) (out₀ last₀ out last : List ℕ) (x j count : ℕ) : Type 0 where
  pub xw : x ≤ w
  pub jm : j ≤ m
  pub behind : Behind t row m x j
  pub edge : (x ≡ 0) ⊎ ((x ≡ w) ⊎ (box_free w h n t (x - 1) y ≡ false))
  pub small : count ≤ max_strips
  pub same_out : length out ≡ length out₀
  pub same-last : length last ≡ length last₀
  pub joined : (o : List ℕ)
      → Joined (box_free w h n t) w h o out₀ last₀ c y z 0 (strips_from (box_free w h n t) w h y)
      → Joined (box_free w h n t) w h o out last count y z x (ahead (box_free w h n t) w h y z x)

module _
    (t row : List ℕ) (n m w h y z c : ℕ) (out₀ last₀ : List ℕ) (yh : y < h)
    (ch : Change (box_free w h n t) h y z) where
  abbrev f : ℕ → ℕ → Bool
  f = box_free w h n t

  pub row-start : c ≤ max_strips → JoiningRow t row n m w h y z c out₀ last₀ out₀ last₀ 0 m c
  row-start l =
      record {
        xw = omega arith;
        jm = omega arith;
        behind = λ p a b. absurd (omega arith);
        edge = inl refl;
        small = l;
        same_out = refl;
        same-last = refl;
        joined = λ o J.
            joined-turn f w h o out₀ last₀ c y z 0 y z 0 (λ a m. refl) (strips_from f w h y) (ahead f w h y z 0)
            (rows_next f w h y z yh ch) J;
      }

  module _
      (out last : List ℕ) (x j count : ℕ) (s : JoiningRow t row n m w h y z c out₀ last₀ out last x j count) where
    -- the strips so far, where the row is joined up to column x
    abbrev SoFar : List ℕ → Type 0
    SoFar o = Joined f w h o out last count y z x (ahead f w h y z x)

    -- the next run, from a up to b, with no other up to e
    module _ (a b e i : ℕ) (r : SweptRun (row_of f y) t row m w x a b e i) where
      ab : a < b
      ab = r.gt

      bw : b ≤ w
      bw = r.stop.le

      is-run : is_run (row_of f y) w (run a b) ≡ true
      is-run = swept-run f w h y z ch x a b s.edge r.from ab r.stop r.blocked

      old-rest : is_top f w y (run a b) ≡ false → ahead f w h y z x ≡ ahead f w h y z e
      old-rest q =
          ap (λ (l : List Strip). l ++ strips_from f w h z)
          (ap (begun f w h y) r.next ∙ begun-old f w h y (run a b) (runs_from (row_of f y) w e) q)

      new-rest : is_top f w y (run a b) ≡ true → ahead f w h y z x ≡ strip_at f w h y (run a b) ∷ ahead f w h y z e
      new-rest q =
          ap (λ (l : List Strip). l ++ strips_from f w h z)
          (ap (begun f w h y) r.next ∙ begun-top f w h y (run a b) (runs_from (row_of f y) w e) q)

      -- behind the run the row is joined up to e
      past : (o out' last' : List ℕ) (count' : ℕ) → Joined f w h o out' last' count' y z b (ahead f w h y z e)
          → Joined f w h o out' last' count' y z e (ahead f w h y z e)
      past o out' last' count' =
          joined-none f w h y z ch o out' last' count' b e (ahead f w h y z e) (ahead f w h y z e) r.be refl r.gap

      -- it goes on with the strip at place k
      pub row_old : (k : ℕ) → k ≡ get_or last a 0 → Opened out k count a b y
          → (out' : List ℕ) → out' ≡ set out (k * 4 + 3) z
          → JoiningRow t row n m w h y z c out₀ last₀ out' last e i count
      row_old k ek p out' q =
          record {
            xw = r.ew;
            jm = r.jm;
            behind = r.behind;
            edge = inr r.edge;
            small = s.small;
            same_out = ap length q ∙ length-set out (k * 4 + 3) z ∙ s.same_out;
            same-last = s.same-last;
            joined = λ o J₀. past o out' last count (on o (s.joined o J₀));
          }
        where
          on : (o : List ℕ) → SoFar o → Joined f w h o out' last count y z b (ahead f w h y z e)
          on o J =
              joined-old f w h y z ch x a b r.from ab bw (alone f w h y z ch x a b is-run r.blocked) is-run
              o out last count (ahead f w h y z x) J k p.lt ek
              (open-x0 f w h o out last count y z x a b (ahead f w h y z x) J k p)
              (open-x1 f w h o out last count y z x a b (ahead f w h y z x) J k p)
              (open-y1 f w h o out last count y z x a b (ahead f w h y z x) J k p)
              out' (ahead f w h y z e)
              (old-rest (open-old f w h o out last count y z x a b (ahead f w h y z x) J k p r.from)) q

      -- it begins a strip
      module _ (bad : Opened out (get_or last a 0) count a b y → ⊥) where
        fresh : (o : List ℕ) → SoFar o → 0 < y → is_run (row_of f (y - 1)) w (run a b) ≡ true → ⊥
        fresh o J =
            not-open f w h o out last count y z x a b (ahead f w h y z x) J r.from (omega (arith, ab, bw)) bad

        rest-is : (o : List ℕ) → SoFar o → ahead f w h y z x ≡ strip_at f w h y (run a b) ∷ ahead f w h y z e
        rest-is o J = new-rest (new-top f w (run a b) y (fresh o J))

        pub row_new : count < max_strips → (out' last' : List ℕ) → length out' ≡ length out
            → out' ≡ take (count * 4) out ++ (a ∷ y ∷ b ∷ z ∷ drop (count * 4 + 4) out) → last' ≡ set last a count
            → JoiningRow t row n m w h y z c out₀ last₀ out' last' e i (count + 1)
        row_new lt out' last' len p q =
            record {
              xw = r.ew;
              jm = r.jm;
              behind = r.behind;
              edge = inr r.edge;
              small = omega arith;
              same_out = len ∙ s.same_out;
              same-last = ap length q ∙ length-set last a count ∙ s.same-last;
              joined = λ o J₀. past o out' last' (count + 1) (on o (s.joined o J₀));
            }
          where
            on : (o : List ℕ) → SoFar o → Joined f w h o out' last' (count + 1) y z b (ahead f w h y z e)
            on o J =
                subst (λ (l : List ℕ). Joined f w h o out' l (count + 1) y z b (ahead f w h y z e)) (sym q)
                (joined-new f w h y z ch x a b r.from ab bw (alone f w h y z ch x a b is-run r.blocked) is-run
                o out last count (ahead f w h y z x) J (omega arith) (fresh o J) out' (ahead f w h y z e) lt
                (rest-is o J) len p)

        -- there is no room for it
        pub row-full : count ≡ max_strips → JoinsRow f w h out₀ last₀ c y z out last None
        row-full q o J₀ =
            joined-full f w h o out last count y z x (ahead f w h y z x) (ahead f w h y z e)
            (strip_at f w h y (run a b)) (rest-is o (s.joined o J₀)) q (s.joined o J₀)

    -- no run is left
    pub row-none : SweptOut (row_of f y) w x → JoinsRow f w h out₀ last₀ c y z out last (Some count)
    unfolding begun
    row-none r o J₀ =
        joined-none f w h y z ch o out last count x w (ahead f w h y z x) (strips_from f w h z) s.xw
        (ap (λ (l : List Strip). l ++ strips_from f w h z) (ap (begun f w h y) r.next)) r.blocked (s.joined o J₀)
