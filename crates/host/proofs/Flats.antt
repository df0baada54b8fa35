-- The numbers of a table's first 512 places: what is loaded is the table's front, and what is stored goes over it.
use Prim.Native.Nat.{ℕ, zero, suc, ◌+◌, ◌*◌, ◌<◌, ◌≤◌, min}
use native.Mathlib.Nat.{not-suc-le-zero}
use native.Mathlib.Decide.{ℕ_discrete}
use native.Mathlib.Omega.{arith}
use mathlib.Core.Path.{◌≡◌, refl, sym, ap, ap₂, ◌∙◌}
use mathlib.Core.Logic.{by_cases, ⊎_elim}
use mathlib.Core.List.{List, [], ◌∷◌, ◌++◌, map}
use lib.ListN.{length, set, get_or, take, drop, replicate, length-set, length-replicate, length-drop, take-append-drop}
use lib.Seq.{sets, length-sets, get_or-set_same, get_or-set_other, set-get_or, get_or-drop, take-suc, take_all, ext_get_or}
use Rattle.foil_spec.specs.Lists.{range, each}
use Rattle.foil_spec.specs.Foil.{Entry, entry_numbers}
use Rattle.foil_spec.specs.Lent.{entry_at}
use Rattle.ledger_laws.proofs.Sound.{read-numbers}
use Rattle.list_laws.proofs.Members.{map_last}
use Rattle.list_laws.proofs.Places.{entry-put, entry_kept}
use Rattle.list_laws.proofs.Tests.{lt-or-le}
use Rattle.host.specs.Flats.{places_lent, numbers_lent, no_entry, load_to, store_to, front_of, with_front}

-- the entries that the numbers of a table of n places say
unfoldable pub entries_of : List ℕ → ℕ → List Entry
entries_of ns n = map (entry_at ns) (range 0 (places_lent n))

-- ---- one place more

pub load-more : (es : List Entry) (k : ℕ)
    → sets (load_to es k) (k * 5) (entry_numbers (get_or es k no_entry)) ≡ load_to es (k + 1)
unfolding load_to
load-more es k = let e : k + 1 ≡ suc k = omega arith in rw e refl

pub load-none : (es : List Entry) → replicate 2560 0 ≡ load_to es 0
unfolding load_to
load-none es = refl

pub store-more : (ns : List ℕ) (es : List Entry) (k : ℕ)
    → set (store_to ns es k) k (entry_at ns k) ≡ store_to ns es (k + 1)
unfolding store_to
store-more ns es k = let e : k + 1 ≡ suc k = omega arith in rw e refl

-- a place that holds the entry already may be left as it is
pub store_same : (ns : List ℕ) (es : List Entry) (k : ℕ) → get_or (store_to ns es k) k no_entry ≡ entry_at ns k
    → store_to ns es k ≡ store_to ns es (k + 1)
store_same ns es k e =
    sym (set-get_or (store_to ns es k) k no_entry) ∙ ap (set (store_to ns es k) k) e ∙ store-more ns es k

pub store-none : (ns : List ℕ) (es : List Entry) → es ≡ store_to ns es 0
unfolding store_to
store-none ns es = refl

store_length : (ns : List ℕ) (es : List Entry) (k : ℕ) → length (store_to ns es k) ≡ length es
unfolding store_to
store_length ns es zero = refl
store_length ns es (suc k) = length-set (store_to ns es k) k (entry_at ns k) ∙ store_length ns es k

-- ---- what is loaded

pub load-length : (es : List Entry) (k : ℕ) → length (load_to es k) ≡ 2560
unfolding load_to
load-length es zero = length-replicate {A = ℕ} 2560 0
load-length es (suc k) = length-sets (load_to es k) (k * 5) (entry_numbers (get_or es k no_entry)) ∙ load-length es k

loaded_at : (es : List Entry) (k n : ℕ) → n < k → n < 512 → entry_at (load_to es k) n ≡ get_or es n no_entry
unfolding load_to
loaded_at es zero n l m = absurd (not-suc-le-zero l)
loaded_at es (suc k) n l m =
    let a : List ℕ = load_to es k in
    let e : Entry = get_or es k no_entry in
    by_cases (ℕ_discrete n k)
    (λ (q : n ≡ k). ap (entry_at (sets a (k * 5) (entry_numbers e))) q
    ∙ entry-put a k e (omega (arith, load-length es k, q, m)) ∙ ap (λ (j : ℕ). get_or es j no_entry) (sym q))
    (λ (ne : n ≡ k → ⊥). entry_kept a k e n ne ∙ loaded_at es k n (omega (arith, ne, l)) m)

-- the first n places, one by one
places : (g : ℕ → Entry) (es : List Entry) (n : ℕ) → n ≤ length es → ((k : ℕ) → k < n → g k ≡ get_or es k no_entry)
    → map g (range 0 n) ≡ take n es
places g es zero h q = refl
places g es (suc n) h q =
    let z : 0 + n ≡ n = omega arith in
    map_last g 0 n
    ∙ ap₂ (λ (l : List Entry) (e : Entry). l ++ (e ∷ [])) (places g es n (omega arith) (λ k l. q k (omega arith)))
    (ap g z ∙ q n (omega arith))
    ∙ sym (take-suc es n no_entry h)

take-least : (n k : ℕ) (es : List Entry) → n ≡ length es → take (min n k) es ≡ take k es
take-least n k es e =
    ⊎_elim
    (λ (l : n < k). let m : min n k ≡ n = omega arith in
    ap (λ (j : ℕ). take j es) m ∙ take_all n es (omega (arith, e)) ∙ sym (take_all k es (omega (arith, e, l))))
    (λ (l : k ≤ n). let m : min n k ≡ k = omega arith in ap (λ (j : ℕ). take j es) m)
    (lt-or-le n k)

-- what is loaded is the front of the table
pub loaded : (es : List Entry) → entries_of (front_of es) (length es) ≡ take 512 es
unfolding entries_of
loaded es =
    let n : ℕ = places_lent (length es) in
    places (entry_at (load_to es n)) es n (omega arith) (λ k l. loaded_at es n k l (omega (arith, l)))
    ∙ take-least (length es) 512 es refl

-- ---- what is stored

stored-not : (ns : List ℕ) (es : List Entry) (k n : ℕ) → k ≤ n
    → get_or (store_to ns es k) n no_entry ≡ get_or es n no_entry
unfolding store_to
stored-not ns es zero n l = refl
stored-not ns es (suc k) n l =
    get_or-set_other (store_to ns es k) k n (entry_at ns k) no_entry (λ q. omega (arith, q, l))
    ∙ stored-not ns es k n (omega (arith, l))

stored_at : (ns : List ℕ) (es : List Entry) (k n : ℕ) → n < k → n < length es
    → get_or (store_to ns es k) n no_entry ≡ entry_at ns n
unfolding store_to
stored_at ns es zero n l m = absurd (not-suc-le-zero l)
stored_at ns es (suc k) n l m =
    let old : List Entry = store_to ns es k in
    let e : Entry = entry_at ns k in
    by_cases (ℕ_discrete n k)
    (λ (q : n ≡ k). ap (λ (j : ℕ). get_or (set old k e) j no_entry) q
    ∙ get_or-set_same old k e no_entry (omega (arith, store_length ns es k, q, m))
    ∙ ap (entry_at ns) (sym q))
    (λ (ne : n ≡ k → ⊥). get_or-set_other old k n e no_entry ne ∙ stored_at ns es k n (omega (arith, ne, l)) m)

-- what is stored goes over the front of the table, and the rest stays
pub stored : (ns : List ℕ) (es : List Entry) → with_front ns es ≡ entries_of ns (length es) ++ drop 512 es
unfolding entries_of
stored ns es =
    let n : ℕ = places_lent (length es) in
    let new : List Entry = with_front ns es in
    let same : length new ≡ length es = store_length ns es n in
    let d = length-drop 512 new in
    let d' = length-drop 512 es in
    let front : map (entry_at ns) (range 0 n) ≡ take 512 new =
    places (entry_at ns) new n (omega (arith, same))
    (λ k l. sym (stored_at ns es n k (omega (arith, l)) (omega (arith, l))))
    ∙ take-least (length es) 512 new (sym same) in
    let back : drop 512 new ≡ drop 512 es =
    ext_get_or no_entry (drop 512 new) (drop 512 es) (omega (arith, d, d', same))
    (λ i l. get_or-drop 512 new i no_entry
    ∙ stored-not ns es n (512 + i) (omega arith)
    ∙ sym (get_or-drop 512 es i no_entry)) in
    sym (take-append-drop 512 new) ∙ ap₂ (λ (a b : List Entry). a ++ b) (sym front) back

-- ---- what is lent on

-- the numbers that are lent on are those of the entries
pub lent-on : (ns : List ℕ) (n : ℕ) → length ns ≡ 2560 → take (numbers_lent n) ns ≡ each entry_numbers (entries_of ns n)
unfolding entries_of
lent-on ns n h = sym (read-numbers ns (places_lent n) (omega (arith, h)))
