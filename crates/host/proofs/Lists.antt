-- A list of nets, from the numbers of a table's first 512 places to the table of entries.
use Prim.Native.Nat.{ℕ, ◌/◌}
use mathlib.Core.Path.{◌≡◌, sym, ap, ◌∙◌, subst}
use mathlib.Core.List.{List, ◌++◌}
use lib.ListN.{length, take}
use Rattle.foil_spec.specs.Limits.{sheet_foils, sheet_size}
use Rattle.foil_spec.specs.Foil.{Entry}
use Rattle.foil_spec.specs.Calls.{lay_list, Reply, output_by}
use Rattle.sheet_rows.specs.declared.Sheet.{Sheet}
use Rattle.sheet_rows.specs.Rows.{sheet_lent}
use Rattle.sheet.specs.Contract.{ListTells, SheetListDone}
use Rattle.foil.specs.Contract.{Answer}
use Rattle.host.specs.Calls.{HostListed}
use Rattle.host.proofs.Fronts.{longer, call-longer}
use Rattle.host.proofs.Tables.{Stored, on-table}

module _ (k : ℕ) (ws : List ℕ) (b : Sheet) (s : List ℕ) (r : Answer) (b' : Sheet) (s' out ans out' ans' : List ℕ)
    (eight : length b.boards ≡ sheet_foils) where
  abbrev Lists : List ℕ → List ℕ → Type 0
  Lists t t' = SheetListDone k ws (sheet_lent b.boards t s) out ans r b' t' s' out' ans'

  lists-more : (t t' rest : List ℕ) → length t ≡ sheet_size → Lists t t' → Lists (t ++ rest) (t' ++ rest)
  lists-more t t' rest full d =
      let l =
      call-longer rest k (lay_list ws (length ans / 3)) (sheet_lent b.boards t s) (length out) full eight in
      record {
        tells = subst (λ (x : Reply). ListTells x r ans ans') (sym l.answer) d.tells;
        state = ap (longer rest) d.state ∙ sym l.state;
        output = d.output ∙ ap (λ (x : Reply). output_by x out) (sym l.answer);
      }

  pub whole-listed : (es : List Entry) (ns : List ℕ) (n : ℕ) (new : List ℕ) (es' : List Entry) → Stored es ns n new es'
      → Lists (take n ns) new → HostListed k ws b es s out ans r b' es' s' out' ans'
  whole-listed = on-table Lists lists-more
