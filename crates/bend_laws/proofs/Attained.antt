-- Foils of 1, 2 and 3 strips with a track that has as many bends as the bound allows, computed: no lower bound holds.
use mathlib.Core.Path.{◌≡◌, refl}
use mathlib.Core.List.{List, [], ◌∷◌, map}
use lib.ListN.{length}
use Rattle.foil_spec.specs.Foil.{Point, point, entry, pen, Layout, within, blocks, pen_rule, margin}
use Rattle.foil_spec.specs.Foil.{near_edge, free_by, free}
use Rattle.foil_spec.specs.Strips.{stop_in, stop, scan, scan_at, starts, is_run, is_top, begun, strips_from}
use Rattle.foil_spec.specs.Paths.{after, between, level_free, upright_free, segment, bends, points, goings}
use Rattle.foil_spec.specs.Paths.{steps_from, shortest, first_from, first_path_to}
use Rattle.foil_spec.specs.Ledger.{strips_of, path_of, corners_of}
use Rattle.box_laws.specs.Bound.{bend_bound}

-- a foil and two points on it
record Case : Type 0 where
  foil : Layout
  from : Point
  to : Point

-- one strip; and stairs of strips that share a column with the next one only
cases : List Case
cases =
    record {
      foil = record { width = 2; height = 2; pen = pen 0 0; entries = [] };
      from = point 0 0;
      to = point 1 1;
    }
    ∷ record {
      foil =
          record { width = 3; height = 2; pen = pen 0 0; entries = entry 0 2 0 3 1 ∷ entry 0 0 1 1 2 ∷ [] };
      from = point 0 0;
      to = point 2 1;
    }
    ∷ record {
      foil =
          record {
            width = 4;
            height = 3;
            pen = pen 0 0;
            entries = entry 0 2 0 4 1 ∷ entry 0 0 1 1 2 ∷ entry 0 3 1 4 2 ∷ entry 0 0 2 2 3 ∷ [];
          };
      from = point 0 0;
      to = point 3 2;
    }
    ∷ []

-- they have so many strips
strip-counts : map (λ (c : Case). length (strips_of c.foil)) cases ≡ 1 ∷ 2 ∷ 3 ∷ []
unfolding cases within blocks pen_rule margin near_edge free_by free
    stop_in stop scan scan_at starts is_run is_top begun strips_from strips_of
strip-counts = refl

-- and their tracks as many bends as the bound allows for these
attained : map (λ (c : Case). bends (corners_of c.foil c.from c.to)) cases ≡ map bend_bound (1 ∷ 2 ∷ 3 ∷ [])
unfolding cases within blocks pen_rule margin near_edge free_by free
    after between level_free upright_free segment bends points goings steps_from shortest first_from first_path_to
    path_of corners_of bend_bound
attained = refl
