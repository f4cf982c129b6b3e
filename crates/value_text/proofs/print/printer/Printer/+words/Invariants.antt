use Rattle.std.proofs.Common.{◌+◌, ◌*◌}
use Rattle.value_text.proofs.print.printer.Printer.+words.Given as goal

abbrev pub decreases-put_node_word : goal.decreases-put_node_word
decreases-put_node_word g l = 4 * l.levels

abbrev pub decreases-put_list_word : goal.decreases-put_list_word
decreases-put_list_word g l = 4 * l.levels + 1

abbrev pub decreases-put_shape_word : goal.decreases-put_shape_word
decreases-put_shape_word g l = 4 * l.levels + 2

abbrev pub decreases-put_found_word : goal.decreases-put_found_word
decreases-put_found_word g l = 4 * l.levels + 3
