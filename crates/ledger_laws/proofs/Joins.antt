-- Joins in a list of calls.
use Prim.Native.Nat.{ℕ, ◌+◌, ◌≤◌}
use native.Mathlib.Omega.{arith}
use mathlib.Core.Path.{◌≡◌, refl, sym, ap, ap₂, ◌∙◌, subst}
use mathlib.Core.Bool.{true}
use mathlib.Core.List.{List, ◌++◌}
use mathlib.Core.Logic.{◌↔◌}
use lib.ListN.{length}
use Rattle.foil_spec.specs.Foil.{Point, Layout}
use Rattle.foil_spec.specs.Paths.{is_path_to}
use Rattle.foil_spec.specs.Nets.{net_length, net_bends}
use Rattle.foil_spec.specs.Ledger.{without, free_for, on_legs, legs, with_entries, Step, Answer, reads, After, ledger_step}
use Rattle.foil_spec.specs.Ledger.{lift, join, refused, laid}
use Rattle.foil_spec.specs.Lent.{Lent}
use Rattle.path_laws.proofs.FirstPath.{of-path}
use Rattle.path_laws.proofs.Ways.{path-way}
use Rattle.ledger_laws.specs.Moments.{Moment}
use Rattle.ledger_laws.specs.Joins.{NoJoin, JoinsFirst, JoinsApart, JoinBends, LiftsWhole}
use Rattle.ledger_laws.proofs.Moments.{Goes, Chain, Onward, Standing, at_every}
use Rattle.ledger_laws.proofs.Demand3.{goes_on, answer-is, corners-front}
use Rattle.ledger_laws.proofs.Apart.{way_apart}
use Rattle.ledger_laws.proofs.Join.{ledger-9, Joined, of-joined, more-bends, more-length}
use Rattle.ledger_laws.proofs.Join.{lifts-whole, lift-too-fine}

join_goes : (m : Lent) (k : Moment) (later : List Moment) (net : ℕ) (S : Point) → Standing m k later
    → k.step ≡ join net S → Goes m k × Onward m k.ledger_after later
unfolding reads
join_goes m k later net S w e = goes_on m k later (join net S) w e refl

pub no_join : NoJoin
no_join m l cs b earlier k later e net S s long may =
    let g = (join_goes m k later net S (at_every m l cs b earlier k later e) s).0 in
    subst
    (λ (x : Answer).
    (x ≡ refused 9)
    ↔ ((ds : List Point) → is_path_to (free_for net k.ledger_before) S (on_legs net k.ledger_before) ds ≡ true → ⊥))
    (sym (answer-is m k (join net S) g s)) (ledger-9 k.room k.ledger_before net S long may)

-- a join that is accepted, on the ledger
module _ (m : Lent) (k : Moment) (g : Goes m k) (net : ℕ) (S : Point) (cs : List Point) (n : ℕ)
    (s : k.step ≡ join net S) (h : k.answer ≡ laid cs n) where
  joined : Joined k.room k.ledger_before net S cs n
  joined = of-joined k.room k.ledger_before net S cs n (sym (answer-is m k (join net S) g s) ∙ h)

  left_is : k.ledger_after ≡ with_entries k.ledger_before (k.ledger_before.entries ++ legs net cs)
  left_is = g.left ∙ ap (λ (x : Step). (ledger_step k.room x k.ledger_before).state) s ∙ joined.left

  -- it has a corner
  some-corner : 1 ≤ length cs
  some-corner =
      omega (
        arith,
        ap length (of-path (free_for net k.ledger_before) S (on_legs net k.ledger_before) cs
            joined.is-first.path).is,
      )

pub joins-first : JoinsFirst
joins-first m l cs b earlier k later e net S ds n s h =
    let g = (join_goes m k later net S (at_every m l cs b earlier k later e) s).0 in
    let j = joined m k g net S ds n s h in
    (j.is-first, j.bent, corners-front m k ds n g h)

pub joins-apart : JoinsApart
joins-apart m l cs b earlier k later e net S ds n s h =
    let g = (join_goes m k later net S (at_every m l cs b earlier k later e) s).0 in
    let j = joined m k g net S ds n s h in (
      ap (λ (x : Layout). x.entries) (left_is m k g net S ds n s h),
      way_apart (without net k.ledger_before) net ds
          (unfold free_for in
          path-way (free_for net k.ledger_before) S (on_legs net k.ledger_before) ds j.is-first.path),
    )

pub join-bends : JoinBends
join-bends m l cs b earlier k later e net S ds n s h =
    let g = (join_goes m k later net S (at_every m l cs b earlier k later e) s).0 in
    let j = joined m k g net S ds n s h in
    let left = left_is m k g net S ds n s h in
    let some = some-corner m k g net S ds n s h in (
      ap (net_bends net) left ∙ more-bends k.ledger_before net ds j.own.used some
          ∙ ap (λ (i : ℕ). net_bends net k.ledger_before + i + 1) (sym j.bent),
      ap (net_length net) left ∙ more-length k.ledger_before net ds,
    )

pub lifts-whole-after : LiftsWhole
lifts-whole-after m l cs b earlier k later e net S ds n s h next rest q u long =
    let p = join_goes m k later net S (at_every m l cs b earlier k later e) s in
    let j = joined m k p.0 net S ds n s h in
    let w = subst (λ (js : List Moment). Chain m k.ledger_after js p.1.end) q p.1.chain in
    let line : ledger_step next.room next.step next.ledger_before
    ≡ ledger_step next.room (lift net)
    (with_entries k.ledger_before (k.ledger_before.entries ++ legs net ds)) =
    ap₂ (λ (x : Step) (y : Layout). ledger_step next.room x y) u (w.0 ∙ left_is m k p.0 net S ds n s h) in
    record {
      lifts = λ fine.
          let whole =
          line ∙ lifts-whole k.ledger_before net ds next.room j.own.allowed j.own.used long fine in (
            w.1.answer ∙ ap (λ (a : After Answer Layout). a.answer) whole,
            w.1.left ∙ ap (λ (a : After Answer Layout). a.state) whole,
          );
      too_fine = λ fine.
          w.1.answer ∙ ap (λ (a : After Answer Layout). a.answer) line
          ∙ lift-too-fine k.ledger_before net ds next.room j.own.allowed j.own.used long fine;
    }
