-- What the marks, the rows and the report come to: the carry of the definitions.
use Prim.Native.Nat.{ℕ, ◌≤◌, ◌<◌}
use native.Mathlib.Omega.{arith}
use mathlib.Core.Path.{◌≡◌, refl, sym, ap, ap₂, ◌∙◌, subst}
use mathlib.Core.Bool.{Bool, true, false, not, ◌&&◌, and-false}
use mathlib.Core.List.{List, [], ◌∷◌, map}
use mathlib.Core.Logic.{inl, inr}
use lib.Dec.{leb, eqb}
use borrow.Author.Tests.{eqb-true, leb-true, lt-ltb, le-ltb}
use lib.ListN.{length}
use Rattle.foil_spec.specs.Lists.{range, cons_if, keep, all, any}
use Rattle.foil_spec.specs.Limits.{max_entries, report_places}
use Rattle.foil_spec.specs.Foil.{Entry, pen, Layout, net_ok, box_ok, shape_ok, entry_ok, pen_ok, reach_ok, under_patch}
use Rattle.foil_spec.specs.Foil.{pen_rule}
use Rattle.foil_spec.specs.Nets.{of_net}
use Rattle.foil_spec.specs.Sound.{formerly}
use Rattle.foil_spec.specs.Carrying.{Old, old, old_short, old_sound, old_entries, net_blocked, blocked_nets, unblocked}
use Rattle.foil_spec.specs.Carrying.{lifted_nets, carried}
use Rattle.foil_spec.specs.Ledger.{with_entries, Room, short, is_too_fine, carry, wrote, says, next, ◌⇒◌}
use Rattle.foil_spec.specs.Ledger.{first, reads, refusals, After, settle, refusal_of}
use Rattle.foil_spec.specs.Ledger.{Answer as Outcome}
use Rattle.foil_spec.specs.Lent.{Lent, lent, entry_at, layout_of, held, store, sound, room_in, room_of, step_on}
use Rattle.foil_spec.specs.Lent.{output_after}
use Rattle.foil_spec.specs.declared.Board.{Board}
use Rattle.foil_spec.specs.declared.OldBoard.{OldBoard}
use Rattle.list_laws.proofs.Tests.{both, clash, and_l, and_r, all_keep}
use Rattle.list_laws.proofs.Members.{In, in_map, of-all, in-any, of-any, in-range, of_range}
use Rattle.list_laws.proofs.Counting.{few-numbers}
use Rattle.ledger_laws.proofs.Refusals.{short-refused, own-refused}
use Rattle.ledger_laws.proofs.Sound.{length-read, as_long}
use Rattle.ledger_laws.proofs.Carried.{old-known, old-keeps}
use Rattle.ledger_laws.proofs.Carrying.{carried-fits}
use Rattle.zones.specs.Table.{Table}
use Rattle.zones.proofs.Tables.{table_of, pen-small, foil-sized}
use Rattle.tables.specs.Rows.{rows_of}
use Rattle.tables.specs.Booked.{Stored, Booking}
use Rattle.std.specs.Prelude.{Option, Some, None, Ok, Err}
use Rattle.tables.proofs.Filling.{read-rows, length-rows}
use Rattle.foil.specs.Contract.{Answer, answer_of, Gave, Wrote, TooShort}
use Rattle.foil.specs.declared.Accepted.TheVariants.{Wrote as WroteNets}
use Rattle.foil.proofs.Giving.{gave-refused, wrote-refused}
use Rattle.putting.specs.Put.{Put}
use Rattle.carrying.specs.Marks.{mark_places, marked, SmallNets, MarkedTo, unmarked, Unmarked}
use Rattle.carrying.specs.Carried.{OldRows, carried_layout, carried_to, CarriedAs}
use Rattle.carrying.proofs.Reporting.{report-is}

-- ---- lists

-- tests that agree on a list keep the same of it
keep_same : {A : Type 0} (p q : A → Bool) (xs : List A) → ((x : A) → In x xs → p x ≡ q x) → keep p xs ≡ keep q xs
keep_same p q [] h = refl
keep_same {A} p q (x ∷ xs) h =
    ap₂ (λ (b : Bool) (ys : List A). cons_if b x ys) (h x (inl refl)) (keep_same p q xs (λ y i. h y (inr i)))

-- a test that passes more keeps no fewer
keep-fewer : {A : Type 0} (p q : A → Bool) (xs : List A) → ((x : A) → p x ≡ true → q x ≡ true)
    → length (keep p xs) ≤ length (keep q xs)
keep-fewer p q [] h = omega arith
keep-fewer {A} p q (x ∷ xs) h = go (p x) (q x) (h x) (keep-fewer p q xs h)
  where
    go : (a b : Bool) → (a ≡ true → b ≡ true) → length (keep p xs) ≤ length (keep q xs)
        → length (cons_if a x (keep p xs)) ≤ length (cons_if b x (keep q xs))
    go true true k l = omega arith
    go true false k l = clash (k refl) refl
    go false true k l = omega arith
    go false false k l = l

-- ---- the old rows

net-most : (w h : ℕ) (e : Entry) → entry_ok w h e ≡ true → e.net < mark_places
unfolding entry_ok shape_ok net_ok
net-most w h e ok =
    both (eqb e.net 0)
    (λ z. omega (arith, eqb-true e.net 0 z))
    (λ z.
    let s : shape_ok e ≡ true = and_r (box_ok w h e) _ ok in
    let n : net_ok e.net ≡ true = and_l (net_ok e.net) _ (rw z at s) in
    omega (arith, leb-true e.net 999 (and_r (leb 1 e.net) _ n)))

module _ (t : List ℕ) (b : OldBoard) (o : OldRows t b) where
  abbrev n : ℕ
  n = b.entries

  abbrev es : List Entry
  es = map (entry_at t) (range 0 n)

  of-entries : (e : Entry) → In e es → e.net < mark_places
  of-entries e i =
      net-most b.width b.height e (of-all (entry_ok b.width b.height) e es o.entries i)

  pub small-nets : SmallNets t n
  small-nets =
      record {
        len = o.len;
        few = o.few;
        small = λ i l.
            of-entries (entry_at t i)
            (in_map (entry_at t) i (range 0 n)
            (in-range i 0 n (omega arith) (omega arith)));
      }

  pub few-blocked : length (blocked_nets b.reach es) ≤ max_entries
  unfolding blocked_nets net_blocked of_net
  few-blocked =
      let used : ℕ → Bool = λ i. any (λ (x : Entry). eqb x.net i) es in
      omega (
        arith,
        keep-fewer (net_blocked b.reach es) used (range 1 999)
            (λ i h.
            let (e, on, is) =
            of-any (λ (x : Entry). eqb x.net i && under_patch b.reach es x) es h in
            in-any (λ (x : Entry). eqb x.net i) e es on (and_l (eqb e.net i) _ is)),
        few-numbers (λ (e : Entry). e.net) es 1 999,
        length-read t n,
        o.few,
      )

  module _ (ms : List ℕ) (m : MarkedTo ms t n b.reach n) where
    blocked-is : (net : ℕ) → net < mark_places → marked ms net ≡ net_blocked b.reach es net
    unfolding net_blocked
    blocked-is net l = m.just net l

    pub nets-are : keep (marked ms) (range 1 999) ≡ blocked_nets b.reach es
    unfolding blocked_nets
    nets-are =
        keep_same (marked ms) (net_blocked b.reach es) (range 1 999)
        (λ net i. blocked-is net (omega (arith, (of_range net 1 999 i).1)))

    pub report-room : (report : List ℕ) → report_places ≤ length report
        → length (keep (marked ms) (range 1 999)) ≤ length report
    report-room report h = omega (arith, ap length nets-are, few-blocked)

    left-are : unmarked t ms n ≡ unblocked b.reach es
    unfolding unmarked unblocked
    left-are =
        keep_same (λ (e : Entry). not (marked ms e.net)) (λ (e : Entry). not (net_blocked b.reach es e.net)) es
        (λ e i. ap not (blocked-is e.net (of-entries e i)))

    module _ (rows : List ℕ) (j : ℕ) (u : Unmarked rows t ms n j) where
      abbrev l : Layout
      l = carried_layout b es

      count : length l.entries ≡ j
      count = ap length (sym left-are) ∙ sym u.counted

      rows_are : rows ≡ rows_of l.entries
      rows_are = u.is ∙ ap rows_of left-are

      read : map (entry_at rows) (range 0 j) ≡ l.entries
      read = read-rows rows l.entries j count rows_are

      few : j ≤ max_entries
      few = omega (arith, u.few, o.few)

      pub rows-again : rows ≡ rows_of (map (entry_at rows) (range 0 j))
      rows-again = rows_are ∙ ap rows_of (sym read)

      pub rows-table : Table rows j (pen_rule (pen 0 b.reach)) b.width b.height
      rows-table =
          table_of rows j (pen_rule (pen 0 b.reach)) b.width b.height few
          (let c = length-rows l.entries (omega (arith, count, few)) in
          omega (arith, few, ap length rows_are))
          (pen-small (pen 0 b.reach) (unfold pen_ok reach_ok in o.reach))
          (foil-sized b.width b.height o.width o.height)
          (subst (λ (xs : List Entry). all (entry_ok b.width b.height) xs ≡ true) (sym read)
          (unfold unblocked in
          all_keep (entry_ok b.width b.height) (λ (e : Entry). not (net_blocked b.reach es e.net)) es
          o.entries))

      layout_is : layout_of b.width b.height (pen 0 b.reach) j rows ≡ l
      unfolding layout_of
      layout_is = ap (with_entries l) read

      -- what is lent, and the report
      module _ (board : Board) (t₀ s₀ out : List ℕ) where
        abbrev lists : Lent
        lists = lent board t₀ s₀

        -- the nets that are lifted
        abbrev ns : List ℕ
        ns = blocked_nets b.reach es

        -- the rows were taken over with this result
        abbrev Over : List ℕ → List ℕ → Option Board → Type 0
        Over t₁ s₁ x = Booking (layout_of b.width b.height (pen 0 b.reach) j rows) t₀ s₀ t₁ s₁ x

        pub too_fine : (t₁ s₁ : List ℕ) (x : Option Board) → Over t₁ s₁ x → x ≡ None
            → CarriedAs l ns lists out (Err 11) board t₁ s₁ out
        unfolding first settle output_after
        too_fine t₁ s₁ x over e =
            let k = subst (Over t₁ s₁) e over in
            let many : is_too_fine l ≡ true = ap is_too_fine (sym layout_is) ∙ k.many in
            record {
              gave =
                  subst (λ (x : List ℕ). Gave (carried_to l ns lists) (Err 11) board x s₁) (sym k.table)
                  (subst (λ (x : List ℕ). Gave (carried_to l ns lists) (Err 11) board t₀ x) (sym k.strips)
                  (gave-refused (first ((is_too_fine l ⇒ 11) ∷ []))
                  (record { answer = wrote ns; state = store l lists }) lists 11
                  (rw many refl)));
              output = rw many refl;
            }

        pub taken : (t₁ s₁ out₁ : List ℕ) (after : Board) (count : ℕ) (x : Option Board) → Over t₁ s₁ x → x ≡ Some after
            → Put out 0 (keep (marked ms) (range 1 999)) out₁ count
            → CarriedAs l ns lists out (Ok (WroteNets count)) after t₁ s₁ out₁
        unfolding first settle output_after answer_of store
        taken t₁ s₁ out₁ after count x over e p =
            let q = subst (λ (y : Layout). Stored y t₀ s₀ t₁ s₁ after) layout_is (subst (Over t₁ s₁) e over) in
            let put = subst (λ (x : List ℕ). Put out 0 x out₁ count) nets-are p in
            let (is, counted) = report-is out out₁ ns count put in
            record {
              gave =
                  rw q.fine
                  (record {
                    answer = ap (λ (n : ℕ). Ok (WroteNets n)) counted;
                    board = q.board;
                    table = q.table;
                    strips = q.strips;
                  });
              output = rw q.fine is;
            }

-- ---- the whole call

old-short-is : (b : OldBoard) (board : Board) (t s : List ℕ) (limit output : ℕ)
    → old_short (old b t s) ≡ short (room_in limit (lent board t s) output)
unfolding old_short short room_in
old-short-is b board t s limit output = refl

-- the check was passed
pub kept_by : (z : Bool) (o : Old) → z ≡ old_sound o → z ≡ true → old_sound o ≡ true
kept_by z o is e = sym is ∙ e

-- an old foil that keeps the rules
pub old-rows : (b : OldBoard) (t s : List ℕ) → old_sound (old b t s) ≡ true → OldRows t b
unfolding old_entries formerly
old-rows b t s g =
    let o : Old = old b t s in
    let k = old-keeps o g in
    let known = old-known o g in
    let long = as_long (formerly b.reach) b.width b.height b.entries b.strips t s known in
    record {
      width = k.width;
      height = k.height;
      reach = k.allowed;
      len = omega (arith, known.few, long.0);
      few = known.few;
      entries = k.entries;
    }

module _ (ob : OldBoard) (ot os : List ℕ) (board : Board) (t s out : List ℕ) where
  abbrev from : Old
  from = old ob ot os

  abbrev m : Lent
  m = lent board t s

  abbrev r : Room
  r = room_of m (length out)

  -- the call gave this
  abbrev Given : Answer → Board → List ℕ → List ℕ → List ℕ → Type 0
  Given d b₁ t₁ s₁ out₁ = Wrote (carry from) r m out d b₁ t₁ s₁ out₁

  module _ (k : Bool) (f : TooShort t s k) where
    short-is : k ≡ short r
    short-is = f.is board max_entries (length out)

    pub short-new : k ≡ true → Given (Err 12) board t s out
    short-new e =
        wrote-refused (carry from) m 12 r out
        (short-refused r (carry from) (held m) (not (sound m)) (sym short-is ∙ e))

    module _ (long : k ≡ false) where
      own : refusal_of r (not (sound m)) (carry from) (held m) ≡ first (refusals (carry from) r (held m))
      unfolding reads
      own =
          own-refused r (carry from) (held m) (not (sound m)) (sym short-is ∙ long) (and-false (not (sound m)))

      module _ (g : Bool) (h : TooShort ot os g) where
        old-is : old_short from ≡ g
        old-is = old-short-is ob board ot os max_entries (length out) ∙ sym (h.is board max_entries (length out))

        pub short-old : g ≡ true → Given (Err 12) board t s out
        unfolding refusals first
        short-old e = wrote-refused (carry from) m 12 r out (own ∙ rw (old-is, e) refl)

        module _ (olds : g ≡ false) where
          pub short-report : length out < report_places → Given (Err 12) board t s out
          unfolding refusals first room_in
          short-report l =
              wrote-refused (carry from) m 12 r out
              (own ∙ rw (old-is, olds, lt-ltb (length out) report_places l) refl)

          module _ (report : report_places ≤ length out) (z : Bool) (is : z ≡ old_sound from) where
            pub old-broken : z ≡ false → Given (Err 13) board t s out
            unfolding refusals first room_in
            old-broken e =
                wrote-refused (carry from) m 13 r out
                (own ∙ rw (old-is, olds, le-ltb (length out) report_places report, sym is ∙ e) refl)

            only-11 : old_sound from ≡ true
                → refusal_of r (not (sound m)) (carry from) (held m) ≡ first ((is_too_fine (carried from) ⇒ 11) ∷ [])
            unfolding refusals first next room_in
            only-11 e =
                own
                ∙ rw (
                  old-is,
                  olds,
                  le-ltb (length out) report_places report,
                  e,
                  carried-fits r from (held m) (omega arith) e,
                ) refl

            step_is : old_sound from ≡ true → step_on r (carry from) m ≡ carried_to (carried from) (lifted_nets from) m
            unfolding step_on says next
            step_is e = rw (only-11 e) refl

            pub carried_on : z ≡ true → (d : Answer) (b₁ : Board) (t₁ s₁ out₁ : List ℕ)
                → CarriedAs (carried_layout ob (map (entry_at ot) (range 0 ob.entries)))
                (blocked_nets ob.reach (map (entry_at ot) (range 0 ob.entries))) m out d b₁ t₁ s₁ out₁
                → Given d b₁ t₁ s₁ out₁
            unfolding carried lifted_nets old_entries
            carried_on e d b₁ t₁ s₁ out₁ c =
                let q = step_is (kept_by z from is e) in
                record {
                  gave = subst (λ (a : After Outcome Lent). Gave a d b₁ t₁ s₁) (sym q) c.gave;
                  output = c.output ∙ ap (λ (a : After Outcome Lent). output_after a.answer out) (sym q);
                }
