use Rattle.std.proofs.Common.{◌∙◌, Some, true, false, lit<, ap, sym}
use Rattle.std.proofs.lemmas.Result.{err_from_is_err_and}
use Rattle.std.proofs.lemmas.Str.Pattern.{contains_char}
use Rattle.ua_nodes.proofs.Pieces.{pieces, pieces_contains}
use Rattle.ua_answers.proofs.Steps.{asks_read, long_range, no_range, not_short, one_range, read_refused, short_enough}
use Rattle.ua_answers.proofs.script.parse_read.Goals as goal

pub returns-then-contains : goal.returns-then-contains
returns-then-contains c =
    let range = c.split_range.result.1.now in
    let two = (pieces_contains 9 range c.contains.result (contains_char 9 range c.contains.result c.contains.ensures.cases (lit< tt))).0 c.if-contains.true in
    no_range c.args.rest.now c.split_range.result.0.now range c.split_range.ensures (long_range (pieces 9 range) two)

pub returns-then-range-gt-MOST_OCTETS : goal.returns-then-range-gt-MOST_OCTETS
returns-then-range-gt-MOST_OCTETS c =
    let range = c.split_range.result.1.now in
    let one = (pieces_contains 9 range c.contains.result (contains_char 9 range c.contains.result c.contains.ensures.cases (lit< tt))).1 c.if-contains.false in
    no_range c.args.rest.now c.split_range.result.0.now range c.split_range.ensures (one_range range false one (not_short range c.if-range-gt-MOST_OCTETS.true))

pub returns-in_err-node : goal.returns-in_err-node
returns-in_err-node c =
    let p = err_from_is_err_and c.from_residual.result c.from_residual.ensures.1 in
    rw (p.1, p.2) (read_refused c.args.rest.now c.split_range.result.0.now c.split_range.result.1.now c.in_err-node.field-0.0 c.split_range.ensures
    c.in_err-node.ensures)

pub returns : goal.returns
returns c =
    let range = c.split_range.result.1.now in
    let one = (pieces_contains 9 range c.contains.result (contains_char 9 range c.contains.result c.contains.ensures.cases (lit< tt))).1 c.if-contains.false in
    asks_read c.args.rest.now c.split_range.result.0.now range c.in_ok-node.node c.in_ok-range.range c.split_range.ensures c.in_ok-node.ensures
    (one_range range true one (short_enough range c.if-range-gt-MOST_OCTETS.false) ∙ ap Some (sym c.in_ok-range.ensures))
