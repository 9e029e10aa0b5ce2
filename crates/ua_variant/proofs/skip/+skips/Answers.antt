use Rattle.std.proofs.Common.{◌≡◌, ◌-◌, ◌%◌, true, false, ◌&&◌, rules, ap, ◌∙◌, sym, arith}
use Rattle.std.specs.Prelude.{eqb, leb, bit_and}
use Rattle.std.proofs.lemmas.Nat.{and_mask}
use Rattle.ua_builtin.specs.Flags.{has}
use Rattle.ua_variant.specs.Encodable.{is_read_kind}
use Rattle.std.proofs.lemmas.Result.{err_from_is_err_and}
use Rattle.ua_wire.specs.Exact.{skipped}
use Rattle.ua_diagnostic.proofs.Skipped.{rest, gives_on}
use Rattle.ua_variant.specs.Decoding.{variant_at, data_value_at, scalars_at, row_at, variant_after, variant_array_at}
use Rattle.ua_variant.proofs.Loops.{array_short}
use Rattle.ua_variant.proofs.BlocksRead.{leaves_at, row_packed}
use Rattle.ua_diagnostic.specs.Diagnostic.{diagnostic_at}
use Rattle.ua_variant.proofs.RowsSkipped.{row_goes_on, row_is_passed, row_fault, value_passed, variant_passed, diagnostic_passed}
use Rattle.ua_variant.proofs.RowsSkipped.{leaf_passed, one_passed, array_passed, no_array}
use Rattle.ua_wire.specs.Exact.{image_read}
use Rattle.ua_variant.specs.Data.{leaf}
use Rattle.ua_variant.specs.Leaf.{holds_values, leaf_at}
use Rattle.ua_variant.proofs.skip.+skips.Goals as goal

pub skip_array-returns-then-room-count-clause-exact : goal.skip_array-returns-then-room-count-clause-exact
skip_array-returns-then-room-count-clause-exact g t c =
    ap rest (array_short c.args.depth c.args.kind c.args.flagged c.in_ok-count.count (g.S.Source.octets c.args.src.now) (g.S.Source.octets c.read_value.new.src)
    c.left.result c.least_octets.result c.in_ok-count.ensures.exact (omega arith) c.left.ensures c.least_octets.ensures.octets c.least_octets.ensures.some
    c.if-room-count.true)

pub skip_row-returns-then-is_packed-clause-exact : goal.skip_row-returns-then-is_packed-clause-exact
skip_row-returns-then-is_packed-clause-exact g t c =
    let old = g.S.Source.octets c.args.src.now in
    gives_on (skipped (row_at c.args.count (scalars_at c.args.depth c.args.kind))) (skipped (row_at c.args.count (leaves_at c.args.kind))) old old
    (g.S.Source.octets c.skip_packed.new.src) c.skip_packed.result
    (ap rest (row_packed c.args.depth c.args.kind c.args.count old (sym c.is_packed.ensures ∙ c.if-is_packed.true))) c.skip_packed.ensures.exact

pub skip_row-returns-in_err-skip_scalar-clause-exact : goal.skip_row-returns-in_err-skip_scalar-clause-exact
skip_row-returns-in_err-skip_scalar-clause-exact g t c =
    let fault = err_from_is_err_and c.from_residual.result c.from_residual.ensures.1 in
    rw (fault.1, fault.2) (row_fault (scalars_at c.args.depth c.args.kind) c.in_err-skip_scalar.field-0.0 c.args.count c.loop.counter
    (g.S.Source.octets c.args.src.now) (g.S.Source.octets c.loop.src) (g.S.Source.octets c.skip_scalar.new.src)
    (omega arith) c.in_err-skip_scalar.ensures.exact c.loop.invariant.so_far)

pub skip_row-loop-preserved : goal.skip_row-loop-preserved
skip_row-loop-preserved g t c = record {
  so_far = row_goes_on (scalars_at c.args.depth c.args.kind) c.args.count c.loop.counter (g.S.Source.octets c.loop.src)
      (g.S.Source.octets c.skip_scalar.new.src) _ (omega arith) c.in_ok-skip_scalar.ensures.exact c.loop.invariant.so_far;
  behind = λ start h. c.in_ok-skip_scalar.ensures.behind start (c.loop.invariant.behind start h);
}

pub skip_row-returns-clause-exact : goal.skip_row-returns-clause-exact
skip_row-returns-clause-exact g t c =
    row_is_passed (scalars_at c.args.depth c.args.kind) (c.args.count - c.loop.counter) (g.S.Source.octets c.loop.src) _ (omega arith) c.loop.invariant.so_far

-- what is left is an end of what stood there
pub skip_array-returns-in_err-count-clause-behind : goal.skip_array-returns-in_err-count-clause-behind
skip_array-returns-in_err-count-clause-behind g t c = c.in_err-count.ensures.behind

pub skip_array-returns-in_err-read_no_dims-clause-behind : goal.skip_array-returns-in_err-read_no_dims-clause-behind
skip_array-returns-in_err-read_no_dims-clause-behind g t c = λ start h. c.in_err-read_no_dims.ensures.behind start (c.in_ok-count.ensures.behind start h)

pub skip_array-returns-then-count-ge-FIRST_NEGATIVE-clause-behind : goal.skip_array-returns-then-count-ge-FIRST_NEGATIVE-clause-behind
skip_array-returns-then-count-ge-FIRST_NEGATIVE-clause-behind g t c = λ start h.
    c.in_ok-read_no_dims.ensures.behind start (c.in_ok-count.ensures.behind start h)

pub skip_array-returns-then-room-count-clause-behind : goal.skip_array-returns-then-room-count-clause-behind
skip_array-returns-then-room-count-clause-behind g t c = c.in_ok-count.ensures.behind

pub skip_array-returns-in_err-skip_row-clause-behind : goal.skip_array-returns-in_err-skip_row-clause-behind
skip_array-returns-in_err-skip_row-clause-behind g t c = λ start h. c.in_err-skip_row.ensures.behind start (c.in_ok-count.ensures.behind start h)

pub skip_array-returns-clause-behind : goal.skip_array-returns-clause-behind
skip_array-returns-clause-behind g t c = λ start h.
    c.skip_dims.ensures.behind start (c.in_ok-skip_row.ensures.behind start (c.in_ok-count.ensures.behind start h))

pub skip_held-returns-clause-behind : goal.skip_held-returns-clause-behind
skip_held-returns-clause-behind g t c = c.skip_variant.ensures.behind

pub skip_row-returns-then-is_packed-clause-behind : goal.skip_row-returns-then-is_packed-clause-behind
skip_row-returns-then-is_packed-clause-behind g t c = c.skip_packed.ensures.behind

pub skip_row-returns-in_err-skip_scalar-clause-behind : goal.skip_row-returns-in_err-skip_scalar-clause-behind
skip_row-returns-in_err-skip_scalar-clause-behind g t c = λ start h. c.in_err-skip_scalar.ensures.behind start (c.loop.invariant.behind start h)

pub skip_row-returns-clause-behind : goal.skip_row-returns-clause-behind
skip_row-returns-clause-behind g t c = c.loop.invariant.behind

pub skip_scalar-returns-in-23-clause-behind : goal.skip_scalar-returns-in-23-clause-behind
skip_scalar-returns-in-23-clause-behind g t c = c.skip_data_value.ensures.behind

pub skip_scalar-returns-in-24-clause-behind : goal.skip_scalar-returns-in-24-clause-behind
skip_scalar-returns-in-24-clause-behind g t c = c.skip_variant.ensures.behind

pub skip_scalar-returns-in-25-clause-behind : goal.skip_scalar-returns-in-25-clause-behind
skip_scalar-returns-in-25-clause-behind g t c = c.skip_diagnostic.ensures.behind

pub skip_scalar-returns-in_default-clause-behind : goal.skip_scalar-returns-in_default-clause-behind
skip_scalar-returns-in_default-clause-behind g t c = c.skip_leaf.ensures.behind

pub skip_tagged-returns-then-tag-ge-ARRAY-clause-behind : goal.skip_tagged-returns-then-tag-ge-ARRAY-clause-behind
skip_tagged-returns-then-tag-ge-ARRAY-clause-behind g t c = c.skip_array.ensures.behind

pub skip_tagged-returns-clause-behind : goal.skip_tagged-returns-clause-behind
skip_tagged-returns-clause-behind g t c = c.skip_scalar.ensures.behind

pub skip_scalar-returns-in-23-clause-exact : goal.skip_scalar-returns-in-23-clause-exact
skip_scalar-returns-in-23-clause-exact g t c =
    let old = g.S.Source.octets c.args.src.now in
    gives_on (skipped (scalars_at c.args.depth c.args.kind)) (skipped (data_value_at c.args.depth)) old old (g.S.Source.octets c.skip_data_value.new.src)
    c.skip_data_value.result (value_passed c.args.depth c.args.kind old c.in-23.is) c.skip_data_value.ensures.exact

pub skip_scalar-returns-in-24-clause-exact : goal.skip_scalar-returns-in-24-clause-exact
skip_scalar-returns-in-24-clause-exact g t c =
    let old = g.S.Source.octets c.args.src.now in
    gives_on (skipped (scalars_at c.args.depth c.args.kind)) (skipped (variant_at c.args.depth)) old old (g.S.Source.octets c.skip_variant.new.src)
    c.skip_variant.result (variant_passed c.args.depth c.args.kind old c.in-24.is) c.skip_variant.ensures.exact

pub skip_scalar-returns-in-25-clause-exact : goal.skip_scalar-returns-in-25-clause-exact
skip_scalar-returns-in-25-clause-exact g t c =
    let old = g.S.Source.octets c.args.src.now in
    gives_on (skipped (scalars_at c.args.depth c.args.kind)) (skipped (diagnostic_at c.args.depth)) old old (g.S.Source.octets c.skip_diagnostic.new.src)
    c.skip_diagnostic.result (diagnostic_passed c.args.depth c.args.kind old c.in-25.is) c.skip_diagnostic.ensures.exact

pub skip_scalar-returns-in_default-clause-exact : goal.skip_scalar-returns-in_default-clause-exact
skip_scalar-returns-in_default-clause-exact g t c =
    let old = g.S.Source.octets c.args.src.now in
    let apart : holds_values c.args.kind ≡ false = search rules in
    gives_on (skipped (scalars_at c.args.depth c.args.kind)) (skipped (image_read leaf (leaf_at c.args.kind))) old old
    (g.S.Source.octets c.skip_leaf.new.src) c.skip_leaf.result (leaf_passed c.args.depth c.args.kind old apart) c.skip_leaf.ensures.exact

pub skip_tagged-returns-clause-exact : goal.skip_tagged-returns-clause-exact
skip_tagged-returns-clause-exact g t c =
    let old = g.S.Source.octets c.args.src.now in
    let some : eqb c.args.tag 0 ≡ false = search rules in
    let low : leb 0x80 c.args.tag ≡ false = search rules in
    let other : eqb c.args.tag 24 ≡ false = search rules in
    gives_on (skipped (variant_after (scalars_at c.args.depth) c.args.tag)) (skipped (scalars_at c.args.depth c.args.tag)) old old
    (g.S.Source.octets c.skip_scalar.new.src) c.skip_scalar.result (one_passed (scalars_at c.args.depth) c.args.tag old some low other)
    c.skip_scalar.ensures.exact

pub skip_tagged-returns-then-tag-ge-ARRAY-clause-exact : goal.skip_tagged-returns-then-tag-ge-ARRAY-clause-exact
skip_tagged-returns-then-tag-ge-ARRAY-clause-exact g t c =
    let old = g.S.Source.octets c.args.src.now in
    let tag = c.args.tag in
    let scalars = scalars_at c.args.depth in
    let kind : bit_and tag 0x3F ≡ tag % 0x40 = and_mask tag 6 in
    let some : eqb tag 0 ≡ false = search rules in
    let high : leb 0x80 tag ≡ true = search rules in
    let octet : leb tag 0xFF ≡ true = search rules in
    let read : is_read_kind (tag % 0x40) ≡ true = ap is_read_kind (sym kind) ∙ sym c.is_read_kind.ensures ∙ c.if-not-is_read_kind.false in
    gives_on (skipped (variant_after scalars tag)) (skipped (variant_array_at scalars (bit_and tag 0x3F) (has tag 0x40))) old old
    (g.S.Source.octets c.skip_array.new.src) c.skip_array.result
    (ap rest (array_passed scalars tag old some high (ap (λ b. b && leb tag 0xFF) read ∙ octet)
    ∙ ap (λ k. variant_array_at scalars k (has tag 0x40) old) (sym kind)))
    c.skip_array.ensures.exact

pub skip_tagged-returns-then-not-is_read_kind-clause-exact : goal.skip_tagged-returns-then-not-is_read_kind-clause-exact
skip_tagged-returns-then-not-is_read_kind-clause-exact g t c =
    let tag = c.args.tag in
    let kind : bit_and tag 0x3F ≡ tag % 0x40 = and_mask tag 6 in
    let some : eqb tag 0 ≡ false = search rules in
    let high : leb 0x80 tag ≡ true = search rules in
    let read : is_read_kind (tag % 0x40) ≡ false = ap is_read_kind (sym kind) ∙ sym c.is_read_kind.ensures ∙ c.if-not-is_read_kind.true in
    ap rest (no_array (scalars_at c.args.depth) tag (g.S.Source.octets c.args.src.now) some high (ap (λ b. b && leb tag 0xFF) read))

-- behind the first byte
pub skip_variant-returns-clause-exact : goal.skip_variant-returns-clause-exact
skip_variant-returns-clause-exact g t c =
    gives_on (skipped (variant_at c.args.depth)) (skipped (variant_after (scalars_at c.in_ok-inner.inner) c.in_ok-inner.tag))
    (g.S.Source.octets c.args.src.now) (g.S.Source.octets c.read_tag.new.src) (g.S.Source.octets c.skip_tagged.new.src) c.skip_tagged.result
    (ap rest c.in_ok-inner.ensures.ok) c.skip_tagged.ensures.exact

pub skip_variant-returns-in_err-inner-clause-behind : goal.skip_variant-returns-in_err-inner-clause-behind
skip_variant-returns-in_err-inner-clause-behind g t c = c.in_err-inner.ensures.behind

pub skip_variant-returns-clause-behind : goal.skip_variant-returns-clause-behind
skip_variant-returns-clause-behind g t c = λ start h. c.skip_tagged.ensures.behind start (c.in_ok-inner.ensures.behind start h)

pub skip_data_value-returns-in_err-inner-clause-behind : goal.skip_data_value-returns-in_err-inner-clause-behind
skip_data_value-returns-in_err-inner-clause-behind g t c = c.in_err-inner.ensures.behind

pub skip_data_value-returns-in_err-skip_held-clause-behind : goal.skip_data_value-returns-in_err-skip_held-clause-behind
skip_data_value-returns-in_err-skip_held-clause-behind g t c = λ start h. c.in_err-skip_held.ensures.behind start (c.in_ok-inner.ensures.behind start h)

pub skip_data_value-returns-in_err-read_data_fields-clause-behind : goal.skip_data_value-returns-in_err-read_data_fields-clause-behind
skip_data_value-returns-in_err-read_data_fields-clause-behind g t c = λ start h.
    c.in_err-read_data_fields.ensures.behind start (c.in_ok-skip_held.ensures.behind start (c.in_ok-inner.ensures.behind start h))

pub skip_data_value-returns-clause-behind : goal.skip_data_value-returns-clause-behind
skip_data_value-returns-clause-behind g t c = λ start h.
    c.in_ok-read_data_fields.ensures.behind start (c.in_ok-skip_held.ensures.behind start (c.in_ok-inner.ensures.behind start h))
