-- Laws, not definitions: the statements of specs/Theorems.antt.
-- Assumes nothing.
use Rattle.network.specs.Theorems.{Network}
use Rattle.network.proofs.laws.Added.{added_so_far}
use Rattle.network.proofs.laws.InRange.{in_range}
use Rattle.network.proofs.laws.Network.{one_lookup, from_any_layer, closed_end}
use Rattle.network.proofs.laws.Places.{place_by_place}
use Rattle.network.proofs.laws.Read.{puts_what_it_reads, reads_its_table}
use Rattle.network.proofs.laws.Rule.{rule_labels, rule_tables}
use Rattle.network.proofs.laws.Sizes.{table_parts}

pub network : Network
network =
    record {
      one_lookup = one_lookup;
      from_any_layer = from_any_layer;
      at_the_end = closed_end;
      place_by_place = place_by_place;
      added_so_far = added_so_far;
      rule_labels = rule_labels;
      rule_tables = rule_tables;
      in_range = in_range;
      table_parts = table_parts;
      reads_its_table = reads_its_table;
      puts_what_it_reads = puts_what_it_reads;
    }
