-- Laws, not definitions: the starred cases, by computation.
-- Assumes nothing.
use mathlib.Core.Path.{refl}
use Rattle.network.specs.Numbers.{layer_results}
use Rattle.network.specs.Order.{xors, layer_lookups}
use Rattle.network.specs.Sizes.{layer_bytes, lookups_in, bytes_in, results_in, offset_in}
use Rattle.layout.specs.Cases.{Starred}
use Rattle.layout.specs.Stages.{rounds, stages, shifted, widths, lookups, tables_bytes, set_bytes, encodings, table_offset}

pub starred : Starred
unfolding xors layer_lookups layer_bytes layer_results lookups_in bytes_in results_in offset_in rounds stages shifted widths lookups tables_bytes set_bytes encodings table_offset
starred =
    record {
      position_1 = refl;
      position_13 = refl;
      table_16 = refl;
      table_496 = refl;
      table_3007 = refl;
      all_lookups = refl;
      table_bytes = refl;
      all_bytes = refl;
      all_encodings = refl;
      no_lookup = refl;
    }
