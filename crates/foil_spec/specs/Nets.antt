-- The nets of a row of entries: which there are, and of each its legs, their steps, its bends and its first point.
use Rattle.std.specs.Prelude.{ℕ, ◌+◌, ◌-◌, Bool, List, [], ◌∷◌, eqb, length}
use Rattle.foil_spec.specs.Lists.{range, keep, any}
use Rattle.foil_spec.specs.Foil.{Point, point, Entry, Layout}

-- the entry is of the net
unfoldable pub of_net : ℕ → Entry → Bool
of_net net e = eqb e.net net

-- the net is in the table
unfoldable pub in_use : ℕ → List Entry → Bool
in_use net es = any (of_net net) es

-- the nets of tracks that are in the table, rising
unfoldable pub nets_of : List Entry → List ℕ
nets_of es = keep (λ (net : ℕ). in_use net es) (range 1 999)

-- the net's entries, in order
unfoldable pub legs_of : ℕ → List Entry → List Entry
legs_of net es = keep (of_net net) es

-- the steps from one end of a leg to the other
unfoldable pub leg_steps : Entry → ℕ
leg_steps e = (e.x1 - e.x0 - 1) + (e.y1 - e.y0 - 1)

-- the steps of all the legs together
unfoldable pub steps_of : List Entry → ℕ
steps_of [] = 0
steps_of (e ∷ es) = leg_steps e + steps_of es

-- L: the sum of the net's legs' steps
unfoldable pub net_length : ℕ → Layout → ℕ
net_length net l = steps_of (legs_of net l.entries)

-- B: the net's entries less one
unfoldable pub net_bends : ℕ → Layout → ℕ
net_bends net l = length (legs_of net l.entries) - 1

-- x0 and y0 of the first of some legs
unfoldable pub first_point : List Entry → Point
first_point [] = point 0 0
first_point (e ∷ es) = point e.x0 e.y0
