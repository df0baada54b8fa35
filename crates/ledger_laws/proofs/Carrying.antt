-- What a carry lifts, leaves and answers.
use Prim.Native.Nat.{ℕ, ◌≤◌, ◌<◌, min}
use native.Mathlib.Omega.{arith}
use mathlib.Core.Path.{◌≡◌, refl, sym, ap, ap₂, ◌∙◌, subst}
use mathlib.Core.Bool.{Bool, true, false, not, ◌&&◌, or-true}
use mathlib.Core.List.{List, [], ◌∷◌}
use mathlib.Core.Logic.{◌↔◌}
use mathlib.Core.Option.{none, some, some-injective, none-ne-some}
use lib.Dec.{leb, ltb, eqb}
use borrow.Author.Tests.{eq-eqb, ne_eqb, eqb-true, leb-true, le-ltb}
use lib.ListN.{length, drop, take}
use lib.Seq.{take_at}
use Rattle.foil_spec.specs.Lists.{range, keep, cons_if, any}
use Rattle.foil_spec.specs.Limits.{max_entries, report_places}
use Rattle.foil_spec.specs.Foil.{Entry, Layout, net_ok, box_ok, shape_ok, entry_ok, meets, crosses, under_patch}
use Rattle.foil_spec.specs.Nets.{of_net}
use Rattle.foil_spec.specs.Carrying.{Old, old_short, old_sound, old_entries, net_blocked, blocked_nets, unblocked}
use Rattle.foil_spec.specs.Carrying.{lifted_nets, carried}
use Rattle.foil_spec.specs.Ledger.{Room, short, too_long, is_too_fine, Step, carry, Answer, refused, wrote, says, next}
use Rattle.foil_spec.specs.Ledger.{first, ◌⇒◌, refusals, refusal_of, After, settle, ledger_step}
use Rattle.foil_spec.specs.Lent.{Lent, over_front, held, sound, step_on, output_after}
use Rattle.list_laws.proofs.Tests.{both, clash, and_l, and_r, and_i, not-ff, parts}
use Rattle.list_laws.proofs.Members.{In, of-all, in-any, of-any, in-keep, of-keep, in-range, sorted-keep}
use Rattle.list_laws.proofs.Members.{sorted-range}
use Rattle.ledger_laws.specs.Moments.{Moment}
use Rattle.ledger_laws.specs.Numbers.{among}
use Rattle.ledger_laws.specs.Carrying.{Blocked, JustBlocked, CarriedOver, CarriesOver, CarriesSound}
use Rattle.ledger_laws.specs.Line.{but}
use Rattle.ledger_laws.proofs.Refusals.{none-applies, first_passes, short-refused, own-refused, unrefused-own}
use Rattle.ledger_laws.proofs.Crossing.{ok-full, point-meets, meets-point}
use Rattle.ledger_laws.proofs.Carried.{old-keeps, old-few, few-left}
use Rattle.ledger_laws.proofs.Stored.{held-store, sound-store}
use Rattle.ledger_laws.proofs.Line.{settled-refused}
use Rattle.ledger_laws.proofs.Steps.{shown}
use Rattle.ledger_laws.proofs.Lending.{carry-blind, step-taken, taken-on, no-wrote, blind-refusal, blind-is}
use Rattle.ledger_laws.proofs.Lending.{blind-state, blind-answer}
use Rattle.ledger_laws.proofs.Moments.{Standing, opens, runs_on, at_every, after-step}

-- ---- which nets are lifted

module _ (W H d : ℕ) (es : List Entry) (ok : (e : Entry) → In e es → entry_ok W H e ≡ true) where
  to-blocked : (net : ℕ) → net_blocked d es net ≡ true → Blocked d es net
  unfolding net_blocked of_net under_patch crosses
  to-blocked net h =
      let (e, on, both-are) = of-any (λ (x : Entry). of_net net x && under_patch d es x) es h in
      let (p, over, cross) = of-any (λ (x : Entry). crosses d x e) es (and_r (of_net net e) _ both-are) in
      let named = eqb-true e.net net (and_l (of_net net e) _ both-are) in
      let patch : eqb p.net 0 ≡ true = search parts in
      let leg : eqb e.net 0 ≡ false = search parts in
      let meet : meets d p e ≡ true = search parts in
      let at = meets-point d p e (ok-full W H p (ok p over)) (ok-full W H e (ok e on)) meet in
      record {
        track = not-zero net (subst (λ (n : ℕ). eqb n 0 ≡ false) named leg);
        leg = e;
        of-net = named;
        patch = p;
        is-patch = eqb-true p.net 0 patch;
        on-foil = (on, over);
        at = at.0;
        on-leg = at.1;
        blocked = at.2;
      }
    where
      not-zero : (n : ℕ) → eqb n 0 ≡ false → 0 < n
      not-zero n z = omega (arith, (let q : n ≡ 0 → ⊥ = λ e. clash (eq-eqb n 0 e) z in q))

  of-blocked : (net : ℕ) → Blocked d es net → net_blocked d es net ≡ true
  unfolding net_blocked of_net under_patch crosses
  of-blocked net b =
      let (on, over) = b.on-foil in
      let track = b.track in
      let of-net = b.of-net in
      in-any (λ (x : Entry). of_net net x && under_patch d es x) b.leg es on
      (and_i (eq-eqb b.leg.net net of-net)
      (in-any (λ (x : Entry). crosses d x b.leg) b.patch es over
      (simp (
        eq-eqb b.patch.net 0 b.is-patch,
        ne_eqb b.leg.net 0 (λ z. omega arith),
        point-meets d b.patch b.leg b.at b.on-leg b.blocked,
      ))))

  -- a net of which that is so is that of a track
  blocked-net : (net : ℕ) → Blocked d es net → In net (range 1 999)
  unfolding entry_ok shape_ok net_ok
  blocked-net net b =
      let shape = ok b.leg b.on-foil.0 in
      let track = b.track in
      let of-net = b.of-net in
      let s : shape_ok b.leg ≡ true = and_r (box_ok W H b.leg) _ shape in
      let allowed = named b.leg (ne_eqb b.leg.net 0 (λ z. omega arith)) s in
      in-range net 1 999 track (omega arith)
    where
      named : (e : Entry) → eqb e.net 0 ≡ false → shape_ok e ≡ true → e.net ≤ 999
      named e z s =
          let n : net_ok e.net ≡ true = and_l (net_ok e.net) _ (rw z at s) in
          leb-true e.net 999 (and_r (leb 1 e.net) _ n)

  listed : (net : ℕ) → In net (blocked_nets d es) ↔ Blocked d es net
  unfolding blocked_nets
  listed net = (
    λ i. to-blocked net (of-keep (net_blocked d es) net (range 1 999) i).1,
    λ b. in-keep (net_blocked d es) net (range 1 999) (blocked-net net b) (of-blocked net b),
  )

  just-blocked : JustBlocked d es (blocked_nets d es)
  just-blocked =
      record {
        just = listed;
        rising = unfold blocked_nets in sorted-keep ltb (net_blocked d es) (range 1 999) (sorted-range 1 999);
      }

  -- a net is lifted just if it is listed
  lifted-listed : (net : ℕ) → net_blocked d es net ≡ among net (blocked_nets d es)
  unfolding among
  lifted-listed net =
      both (net_blocked d es net)
      (λ t.
      t ∙ sym (in-any (eqb net) net (blocked_nets d es) ((listed net).1 (to-blocked net t)) (eq-eqb net net refl)))
      (λ t.
      both (any (eqb net) (blocked_nets d es))
      (λ q.
      let (n, i, e) = of-any (eqb net) (blocked_nets d es) q in
      clash (of-blocked net ((listed net).0 (subst (λ (k : ℕ). In k (blocked_nets d es)) (sym (eqb-true net n e)) i))) t)
      (λ q. t ∙ sym q))

  left-are : unblocked d es ≡ keep (λ (e : Entry). not (among e.net (blocked_nets d es))) es
  unfolding unblocked
  left-are = keep_same es
    where
      keep_same : (fs : List Entry)
          → keep (λ (e : Entry). not (net_blocked d es e.net)) fs
          ≡ keep (λ (e : Entry). not (among e.net (blocked_nets d es))) fs
      keep_same [] = refl
      keep_same (e ∷ fs) =
          ap₂ (λ (b : Bool) (xs : List Entry). cons_if (not b) e xs) (lifted-listed e.net) (keep_same fs)

-- ---- what is left

pub carried-over : (o : Old) → old_sound o ≡ true → CarriedOver o (lifted_nets o) (carried o)
unfolding carried lifted_nets
carried-over o s =
    let k = old-keeps o s in
    let ok : (e : Entry) → In e (old_entries o) → entry_ok o.board.width o.board.height e ≡ true =
    λ e i. of-all (entry_ok o.board.width o.board.height) e (old_entries o) k.entries i in
    record {
      nets = just-blocked o.board.width o.board.height o.board.reach (old_entries o) ok;
      width = refl;
      height = refl;
      half = refl;
      gap = refl;
      entries = left-are o.board.width o.board.height o.board.reach (old_entries o) ok;
    }

-- ---- in a list of calls

module _ (m : Lent) (k : Moment) (later : List Moment) where
  told-answer : Standing m k later → k.answer ≡ (ledger_step k.room k.step k.ledger_before).answer
  told-answer (opens o) = o.answer
  told-answer (runs_on g n) = g.answer

  told-left : Standing m k later → k.ledger_after ≡ (ledger_step k.room k.step k.ledger_before).state
  told-left (opens o) = o.left
  told-left (runs_on g n) = g.left

  told-output : Standing m k later → (given : List ℕ) × (k.output ≡ output_after k.answer given)
  told-output (opens o) = (o.given, o.output)
  told-output (runs_on g n) = (g.given, g.output)

left_by : (r : Room) (o : Old) (l : Layout) → refusal_of r false (carry o) l ≡ none
    → (ledger_step r (carry o) l).state ≡ carried o
unfolding ledger_step settle next
left_by r o l u = rw u refl

-- a carry on the ledger that answers nets
module _ (r : Room) (o : Old) (l : Layout) (ns : List ℕ) (e : (ledger_step r (carry o) l).answer ≡ wrote ns) where
  unrefused : refusal_of r false (carry o) l ≡ none
  unrefused = step-taken r (carry o) l (wrote ns) (no-wrote ns) e

  nets-are : lifted_nets o ≡ ns
  unfolding says
  nets-are =
      let q : wrote (lifted_nets o) ≡ wrote ns = sym (blind-answer (carry o) (carry-blind o) r l unrefused) ∙ e in cc

  left_is : (ledger_step r (carry o) l).state ≡ carried o
  left_is = left_by r o l unrefused

  was-sound : old_sound o ≡ true
  unfolding refusals
  was-sound =
      let h = unrefused-own r (carry o) l false unrefused in
      not-ff (old_sound o) (search none-applies)

front-is : (ns out given : List ℕ) → out ≡ output_after (wrote ns) given → take (length ns) out ≡ ns
unfolding output_after over_front
front-is ns out given e = ap (take (length ns)) e ∙ take_at ns (drop (length ns) given) (length ns) refl

pub carries_over : CarriesOver
carries_over m l cs b earlier k later e o ns s a =
    let at = at_every m l cs b earlier k later e in
    let t : (ledger_step k.room (carry o) k.ledger_before).answer ≡ wrote ns =
    ap (λ (x : Step). (ledger_step k.room x k.ledger_before).answer) (sym s) ∙ sym (told-answer m k later at) ∙ a in
    let left : k.ledger_after ≡ carried o =
    told-left m k later at ∙ ap (λ (x : Step). (ledger_step k.room x k.ledger_before).state) s
    ∙ left_is k.room o k.ledger_before ns t in
    let shows = after-step m k later at in
    let (given, output) = told-output m k later at in (
      subst (CarriedOver o ns) (sym left)
          (subst (λ (xs : List ℕ). CarriedOver o xs (carried o)) (nets-are k.room o k.ledger_before ns t)
          (carried-over o (was-sound k.room o k.ledger_before ns t))),
      ap sound shows.is ∙ sound-store k.ledger_after m shows.kept,
      front-is ns k.output given (output ∙ ap (λ (x : Answer). output_after x given) a),
    )

-- what a carry leaves, on lists that hold anything
pub carried-lists : (r : Room) (o : Old) (m : Lent) (ns : List ℕ) → (step_on r (carry o) m).answer ≡ wrote ns
    → (sound (step_on r (carry o) m).state ≡ true) × (held (step_on r (carry o) m).state ≡ carried o)
unfolding shown
carried-lists r o m ns e =
    let l : Layout = held m in
    let u = sym (blind-refusal (carry o) (carry-blind o) r l (not (sound m)) l)
    ∙ taken-on r (carry o) m (wrote ns) (no-wrote ns) e in
    let is = ap (λ (a : After Answer Lent). a.state) (blind-is (carry o) (carry-blind o) r l u m) in
    let left = (ledger_step r (carry o) l).state in (
      ap sound is ∙ sound-store left m (blind-state (carry o) (carry-blind o) r l u),
      ap held is ∙ held-store left m ∙ left_by r o l u,
    )

-- ---- 13 and 10

-- where 13 applies, 10 is not answered
past-13 : (a b d f : Bool) → first ((a ⇒ 12) ∷ (b ⇒ 12) ∷ (true ⇒ 13) ∷ (d ⇒ 10) ∷ (f ⇒ 11) ∷ []) ≡ some 10 → ⊥
unfolding first
past-13 true b d f h = omega (arith, some-injective 12 10 h)
past-13 false true d f h = omega (arith, some-injective 12 10 h)
past-13 false false d f h = omega (arith, some-injective 13 10 h)

-- of 13, 10 and 11 in this order the first is answered just where it applies
only-13 : (b c d : Bool) → first ((not b ⇒ 13) ∷ (c ⇒ 10) ∷ (d ⇒ 11) ∷ []) ≡ some 13 → b ≡ false
unfolding first
only-13 false c d h = refl
only-13 true true d h = absurd (omega (arith, some-injective 10 13 h))
only-13 true false true h = absurd (omega (arith, some-injective 11 13 h))
only-13 true false false h = absurd (none-ne-some 13 h)

module _ (r : Room) (o : Old) (l : Layout) where
  module _ (long : short r ≡ false) (olds : old_short o ≡ false) (report : report_places ≤ r.output) where
    own : refusal_of r false (carry o) l
        ≡ first ((not (old_sound o) ⇒ 13) ∷ (too_long r (carried o) ⇒ 10) ∷ (is_too_fine (carried o) ⇒ 11) ∷ [])
    unfolding refusals next first
    own =
        own-refused r (carry o) l false long refl ∙ rw (olds, le-ltb r.output report_places report) refl

    answers-13 : ((ledger_step r (carry o) l).answer ≡ refused 13) ↔ (old_sound o ≡ false)
    unfolding ledger_step settle first
    answers-13 = (
      λ h.
          only-13 (old_sound o) (too_long r (carried o)) (is_too_fine (carried o))
          (sym own ∙ settled-refused (refusal_of r false (carry o) l) (carry o) l _ l 13 (omega arith) h),
      λ h. rw (own, h) refl,
    )

  -- the entries that are left always fit a table
  pub carried-fits : max_entries ≤ r.limit → old_sound o ≡ true → too_long r (carried o) ≡ false
  unfolding too_long
  carried-fits h s =
      le-ltb (min max_entries r.limit) (length (carried o).entries) (omega (arith, few-left o s, old-few o s))

  own-10 : max_entries ≤ r.limit → first (refusals (carry o) r l) ≡ some 10 → ⊥
  unfolding refusals next but
  own-10 h e =
      both (old_sound o)
      (λ s. clash (first_passes (but 10) _ (simp (carried-fits h s, or-true)) 10 e) refl)
      (λ s. past-13 (old_short o) (ltb r.output report_places) _ _ (rw s at e))

  never-10 : max_entries ≤ r.limit → (ledger_step r (carry o) l).answer ≡ refused 10 → ⊥
  unfolding ledger_step
  never-10 h e =
      let q = settled-refused (refusal_of r false (carry o) l) (carry o) l _ l 10 (omega arith) e in
      both (short r)
      (λ t. omega (arith, some-injective 12 10 (sym (short-refused r (carry o) l false t) ∙ q)))
      (λ t. own-10 h (sym (own-refused r (carry o) l false t refl) ∙ q))

pub carries-sound : CarriesSound
carries-sound m l cs b earlier k later e o s =
    let at = at_every m l cs b earlier k later e in
    let is : k.answer ≡ (ledger_step k.room (carry o) k.ledger_before).answer =
    told-answer m k later at ∙ ap (λ (x : Step). (ledger_step k.room x k.ledger_before).answer) s in (
      λ long olds report.
          subst (λ (a : Answer). (a ≡ refused 13) ↔ (old_sound o ≡ false)) (sym is)
          (answers-13 k.room o k.ledger_before long olds report),
      λ h a. never-10 k.room o k.ledger_before h (sym is ∙ a),
    )
