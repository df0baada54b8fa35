-- Carrying over, as it is stated (document 02, P9): which nets are lifted, in words of points, what is left, and what
-- is answered. The old record and lists are arguments of the call: no call writes them.
use Rattle.std.specs.Prelude.{ℕ, ◌≤◌, ◌<◌, ◌≡◌, true, false, not, List, ◌↔◌, ltb, length, take}
use Rattle.foil_spec.specs.Lists.{keep}
use Rattle.foil_spec.specs.Limits.{max_entries, report_places}
use Rattle.foil_spec.specs.Foil.{Point, Entry, Layout, blocks}
use Rattle.foil_spec.specs.Carrying.{Old, old_short, old_sound, old_entries}
use Rattle.foil_spec.specs.Ledger.{carry, refused, wrote, short}
use Rattle.foil_spec.specs.Lent.{sound}
use Rattle.list_laws.specs.Members.{In, Sorted}
use Rattle.ledger_laws.specs.Moments.{Moment, AtEvery}
use Rattle.ledger_laws.specs.Apart.{Has}
use Rattle.ledger_laws.specs.Numbers.{among}

-- a patch of the row es, which blocks up to d away, blocks a point of a leg of the net
pub record Blocked (d : ℕ) (es : List Entry) (net : ℕ) : Type 0 where
  pub track : 0 < net
  pub leg : Entry
  pub of-net : leg.net ≡ net
  pub patch : Entry
  pub is-patch : patch.net ≡ 0
  pub on-foil : In leg es × In patch es
  pub at : Point
  pub on-leg : Has leg at
  pub blocked : blocks d patch at.x at.y ≡ true

-- ns has just the nets of which that is so, rising, and so each once
pub record JustBlocked (d : ℕ) (es : List Entry) (ns : List ℕ) : Type 0 where
  pub just : (net : ℕ) → In net ns ↔ Blocked d es net
  pub rising : Sorted ltb ns

-- l is the old foil by today's rules: h is 0, g the old reach, the nets that a patch blocks, which are ns, are lifted
-- whole, and all other entries are in their order
pub record CarriedOver (o : Old) (ns : List ℕ) (l : Layout) : Type 0 where
  pub nets : JustBlocked o.board.reach (old_entries o) ns
  pub width : l.width ≡ o.board.width
  pub height : l.height ≡ o.board.height
  pub half : l.pen.half ≡ 0
  pub gap : l.pen.gap ≡ o.board.reach
  pub entries : l.entries ≡ keep (λ (e : Entry). not (among e.net ns)) (old_entries o)

-- a carry that is accepted leaves that on the ledger, and a record and lists that 13 does not apply to; the nets that
-- it answers stand at the front of the output list
abbrev pub CarriesOverAt : Moment → List Moment → Type 0
CarriesOverAt k later =
    (o : Old) (ns : List ℕ) → k.step ≡ carry o → k.answer ≡ wrote ns
    → CarriedOver o ns k.ledger_after × (sound k.after ≡ true) × (take (length ns) k.output ≡ ns)

abbrev pub CarriesOver : Type 0
CarriesOver = AtEvery CarriesOverAt

-- where all lists and the report are long enough, it answers 13 exactly when the old state breaks document 01's rules;
-- on a foil that may fill its table it never answers 10
abbrev pub CarriesSoundAt : Moment → List Moment → Type 0
CarriesSoundAt k later =
    (o : Old) → k.step ≡ carry o
    → (short k.room ≡ false → old_short o ≡ false → report_places ≤ k.room.output
    → (k.answer ≡ refused 13) ↔ (old_sound o ≡ false))
    × (max_entries ≤ k.room.limit → k.answer ≡ refused 10 → ⊥)

abbrev pub CarriesSound : Type 0
CarriesSound = AtEvery CarriesSoundAt
