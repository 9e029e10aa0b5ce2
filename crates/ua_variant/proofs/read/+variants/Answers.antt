use Rattle.std.proofs.Common.{refl, ◌≡◌, ◌-◌, ◌%◌, true, false, ◌&&◌, rules, List, [], ◌∷◌, ◌++◌, Vec, Global, map, sym, ap, ◌∙◌, arith}
use Rattle.std.specs.Prelude.{eqb, leb, bit_and}
use Rattle.std.proofs.lemmas.Nat.{and_mask}
use Rattle.std.proofs.lemmas.Result.{err_from_is_err_and}
use Rattle.ua_builtin.specs.Flags.{has}
use Rattle.ua_variant.specs.Data.{ScalarData, VariantData, DataValueData, leaf}
use Rattle.ua_variant.specs.Packed.{packed_leaves}
use Rattle.ua_variant.specs.declared.packed.Packed.{Packed}
use Rattle.ua_variant.specs.declared.values.Scalar.{Scalar}
use Rattle.ua_variant.specs.View.{row, scalar_of, variant_of}
use Rattle.ua_variant.specs.Encodable.{is_read_kind}
use Rattle.ua_variant.specs.Decoding.{row_at, variant_at, data_value_at, scalars_at, variant_after, variant_array_at}
use Rattle.ua_variant.proofs.RowsSkipped.{array_passed, no_array}
use Rattle.ua_diagnostic.proofs.Extents.{gives_same}
use Rattle.ua_variant.proofs.Heads.{gives_behind}
use Rattle.ua_variant.proofs.Boxes.{data_value_ends, data_value_is, variant_ends, variant_is}
use Rattle.ua_variant.proofs.Loops.{row_so_far, row_done, array_short}
use Rattle.ua_variant.specs.Blocks.{leaf_row_at}
use Rattle.ua_variant.specs.Leaf.{holds_values}
use Rattle.ua_variant.proofs.BlocksRead.{leaves_at, element_stops, packed_ends, packed_is, records_end, records_are, fault_ends}
use Rattle.ua_variant.proofs.read.+variants.Goals as goal

pub read_boxed_array-returns-then-room-count-clause-exact : goal.read_boxed_array-returns-then-room-count-clause-exact
read_boxed_array-returns-then-room-count-clause-exact g t c =
    array_short c.args.depth c.args.kind c.args.flagged c.in_ok-count.count (g.S.Source.octets c.args.src.now) (g.S.Source.octets c.read_value.new.src)
    c.left.result c.least_octets.result c.in_ok-count.ensures.exact (omega arith) c.left.ensures c.least_octets.ensures.octets c.least_octets.ensures.some
    c.if-room-count.true

pub read_row-returns-in_err-read_packed-clause-exact : goal.read_row-returns-in_err-read_packed-clause-exact
read_row-returns-in_err-read_packed-clause-exact g t c =
    let fault = err_from_is_err_and c.from_residual.result c.from_residual.ensures.1 in
    let packed = sym c.is_packed.ensures ∙ c.if-is_packed.true in
    let new = g.S.Source.octets c.read_packed.new.src in
    rw (fault.1, fault.2) (fault_ends (λ (p : Packed). row (map leaf (packed_leaves p))) (λ (ss : List ScalarData). row ss)
    (row_at c.args.count (leaves_at c.args.kind)) (row_at c.args.count (scalars_at c.args.depth c.args.kind)) (g.S.Source.octets c.args.src.now) new
    (g.S.Source.octets c.args.src.now) new c.in_err-read_packed.field-0.0
    (packed_ends c.args.depth c.args.kind c.args.count (g.S.Source.octets c.args.src.now) packed) c.in_err-read_packed.ensures.exact)

pub read_row-returns-then-is_packed-clause-exact : goal.read_row-returns-then-is_packed-clause-exact
read_row-returns-then-is_packed-clause-exact g t c =
    let new = g.S.Source.octets c.read_packed.new.src in
    packed_is c.args.depth c.args.kind c.args.count (g.S.Source.octets c.args.src.now) new (sym c.is_packed.ensures ∙ c.if-is_packed.true)
    c.in_ok-read_packed.ensures.exact c.packed.ensures

pub read_row-returns-in_err-read_records-in_default-clause-exact : goal.read_row-returns-in_err-read_records-in_default-clause-exact
read_row-returns-in_err-read_records-in_default-clause-exact g t c =
    let fault = err_from_is_err_and c.from_residual-in_err-read_records-in_default.result c.from_residual-in_err-read_records-in_default.ensures.1 in
    let new = g.S.Source.octets c.read_records.new.src in
    let apart : holds_values c.args.kind ≡ false = search rules in
    rw (fault.1, fault.2) (fault_ends (λ (v : Vec Scalar Global). row (map scalar_of v.items)) (λ (ss : List ScalarData). row ss)
    (leaf_row_at c.args.count c.args.kind) (row_at c.args.count (scalars_at c.args.depth c.args.kind)) (g.S.Source.octets c.args.src.now) new
    (g.S.Source.octets c.args.src.now) new c.in_err-read_records-in_default.field-0.0
    (records_end c.args.depth c.args.kind c.args.count (g.S.Source.octets c.args.src.now) apart) c.in_err-read_records-in_default.ensures.exact)

pub read_row-returns-in_ok-read_records-in_default-clause-exact : goal.read_row-returns-in_ok-read_records-in_default-clause-exact
read_row-returns-in_ok-read_records-in_default-clause-exact g t c =
    let new = g.S.Source.octets c.read_records.new.src in
    let apart : holds_values c.args.kind ≡ false = search rules in
    records_are c.args.depth c.args.kind c.args.count (g.S.Source.octets c.args.src.now) new apart c.in_ok-read_records-in_default.ensures.exact
    c.new-in_default.ensures

pub read_data_values-returns-in_err-item-clause-exact : goal.read_data_values-returns-in_err-item-clause-exact
read_data_values-returns-in_err-item-clause-exact g t c =
    let fault = err_from_is_err_and c.from_residual-in_err-item.result c.from_residual-in_err-item.ensures.1 in
    let old = g.S.Source.octets c.loop.src in
    let new = g.S.Source.octets c.read_boxed_data_value.new.src in
    rw (fault.1, fault.2) (element_stops (λ (v : Vec Scalar Global). row (map scalar_of v.items)) (scalars_at c.args.depth 23) c.loop.items.items c.args.count
    c.loop.counter (g.S.Source.octets c.args.src.now) old new c.in_err-item.field-0.0 (omega arith)
    (fault_ends (λ (v : DataValueData). v) scalar_of (data_value_at c.args.depth) (scalars_at c.args.depth 23) old new old new c.in_err-item.field-0.0
    (data_value_ends c.args.depth old) c.in_err-item.ensures.exact) c.loop.invariant.so_far)

pub read_data_values-loop-preserved : goal.read_data_values-loop-preserved
read_data_values-loop-preserved g t c =
    let old = g.S.Source.octets c.loop.src in
    let new = g.S.Source.octets c.read_boxed_data_value.new.src in
    record {
      so_far = row_so_far (scalars_at c.args.depth 23) c.loop.items.items (Scalar.DataValue c.in_ok-item.item) c.args.count c.loop.counter
          (g.S.Source.octets c.args.src.now) old new (omega arith) (c.push_reserved.ensures.items
          ∙ ap (λ (xs : List Scalar). xs ++ Scalar.DataValue c.in_ok-item.item ∷ []) c.make_room.ensures.items)
          (data_value_is c.args.depth old new c.in_ok-item.item c.in_ok-item.ensures.exact) c.loop.invariant.so_far;
      behind = λ start h. c.in_ok-item.ensures.behind start (c.loop.invariant.behind start h);
    }

pub read_data_values-returns-clause-exact : goal.read_data_values-returns-clause-exact
read_data_values-returns-clause-exact g t c =
    row_done (scalars_at c.args.depth 23) (map scalar_of c.loop.items.items) c.args.count (c.args.count - c.loop.counter) (g.S.Source.octets c.args.src.now)
    (g.S.Source.octets c.loop.src) c.loop.invariant.so_far (omega arith) refl

pub read_variants-returns-in_err-item-clause-exact : goal.read_variants-returns-in_err-item-clause-exact
read_variants-returns-in_err-item-clause-exact g t c =
    let fault = err_from_is_err_and c.from_residual-in_err-item.result c.from_residual-in_err-item.ensures.1 in
    let old = g.S.Source.octets c.loop.src in
    let new = g.S.Source.octets c.read_boxed_variant.new.src in
    rw (fault.1, fault.2) (element_stops (λ (v : Vec Scalar Global). row (map scalar_of v.items)) (scalars_at c.args.depth 24) c.loop.items.items c.args.count
    c.loop.counter (g.S.Source.octets c.args.src.now) old new c.in_err-item.field-0.0 (omega arith)
    (fault_ends (λ (v : VariantData). v) scalar_of (variant_at c.args.depth) (scalars_at c.args.depth 24) old new old new c.in_err-item.field-0.0
    (variant_ends c.args.depth old) c.in_err-item.ensures.exact) c.loop.invariant.so_far)

pub read_variants-loop-preserved : goal.read_variants-loop-preserved
read_variants-loop-preserved g t c =
    let old = g.S.Source.octets c.loop.src in
    let new = g.S.Source.octets c.read_boxed_variant.new.src in
    record {
      so_far = row_so_far (scalars_at c.args.depth 24) c.loop.items.items (Scalar.Variant c.in_ok-item.item) c.args.count c.loop.counter
          (g.S.Source.octets c.args.src.now) old new (omega arith) (c.push_reserved.ensures.items
          ∙ ap (λ (xs : List Scalar). xs ++ Scalar.Variant c.in_ok-item.item ∷ []) c.make_room.ensures.items)
          (variant_is c.args.depth old new c.in_ok-item.item c.in_ok-item.ensures.exact) c.loop.invariant.so_far;
      behind = λ start h. c.in_ok-item.ensures.behind start (c.loop.invariant.behind start h);
    }

pub read_variants-returns-clause-exact : goal.read_variants-returns-clause-exact
read_variants-returns-clause-exact g t c =
    row_done (scalars_at c.args.depth 24) (map scalar_of c.loop.items.items) c.args.count (c.args.count - c.loop.counter) (g.S.Source.octets c.args.src.now)
    (g.S.Source.octets c.loop.src) c.loop.invariant.so_far (omega arith) refl

pub read_array-returns-then-room-count-clause-exact : goal.read_array-returns-then-room-count-clause-exact
read_array-returns-then-room-count-clause-exact g t c =
    array_short c.args.depth c.args.kind c.args.flagged c.in_ok-count.count (g.S.Source.octets c.args.src.now) (g.S.Source.octets c.read_value.new.src)
    c.left.result c.least_octets.result c.in_ok-count.ensures.exact (omega arith) c.left.ensures c.least_octets.ensures.octets c.least_octets.ensures.some
    c.if-room-count.true

-- what is left is an end of what stood there
pub box_tagged-returns-in_err-value-clause-behind : goal.box_tagged-returns-in_err-value-clause-behind
box_tagged-returns-in_err-value-clause-behind g t c = c.in_err-value.ensures.behind

pub box_tagged-returns-in_err-new-clause-behind : goal.box_tagged-returns-in_err-new-clause-behind
box_tagged-returns-in_err-new-clause-behind g t c = c.in_ok-value.ensures.behind

pub box_tagged-returns-clause-behind : goal.box_tagged-returns-clause-behind
box_tagged-returns-clause-behind g t c = c.in_ok-value.ensures.behind

pub read_array-returns-in_err-count-clause-behind : goal.read_array-returns-in_err-count-clause-behind
read_array-returns-in_err-count-clause-behind g t c = c.in_err-count.ensures.behind

pub read_array-returns-in_err-dims-clause-behind : goal.read_array-returns-in_err-dims-clause-behind
read_array-returns-in_err-dims-clause-behind g t c = λ start h. c.in_err-dims.ensures.behind start (c.in_ok-count.ensures.behind start h)

pub read_array-returns-then-count-ge-FIRST_NEGATIVE-clause-behind : goal.read_array-returns-then-count-ge-FIRST_NEGATIVE-clause-behind
read_array-returns-then-count-ge-FIRST_NEGATIVE-clause-behind g t c = λ start h. c.in_ok-dims.ensures.behind start (c.in_ok-count.ensures.behind start h)

pub read_array-returns-then-room-count-clause-behind : goal.read_array-returns-then-room-count-clause-behind
read_array-returns-then-room-count-clause-behind g t c = c.in_ok-count.ensures.behind

pub read_array-returns-clause-behind : goal.read_array-returns-clause-behind
read_array-returns-clause-behind g t c = λ start h. c.read_elements.ensures.behind start (c.in_ok-count.ensures.behind start h)

pub read_boxed_array-returns-in_err-count-clause-behind : goal.read_boxed_array-returns-in_err-count-clause-behind
read_boxed_array-returns-in_err-count-clause-behind g t c = c.in_err-count.ensures.behind

pub read_boxed_array-returns-then-count-ge-FIRST_NEGATIVE-clause-behind : goal.read_boxed_array-returns-then-count-ge-FIRST_NEGATIVE-clause-behind
read_boxed_array-returns-then-count-ge-FIRST_NEGATIVE-clause-behind g t c = λ start h.
    c.box_null_array.ensures.behind start (c.in_ok-count.ensures.behind start h)

pub read_boxed_array-returns-then-room-count-clause-behind : goal.read_boxed_array-returns-then-room-count-clause-behind
read_boxed_array-returns-then-room-count-clause-behind g t c = c.in_ok-count.ensures.behind

pub read_boxed_array-returns-in_err-items-clause-behind : goal.read_boxed_array-returns-in_err-items-clause-behind
read_boxed_array-returns-in_err-items-clause-behind g t c = λ start h. c.in_err-items.ensures.behind start (c.in_ok-count.ensures.behind start h)

pub read_boxed_array-returns-clause-behind : goal.read_boxed_array-returns-clause-behind
read_boxed_array-returns-clause-behind g t c = λ start h.
    c.box_array.ensures.behind start (c.in_ok-items.ensures.behind start (c.in_ok-count.ensures.behind start h))

pub read_boxed_tagged-returns-then-nests-clause-behind : goal.read_boxed_tagged-returns-then-nests-clause-behind
read_boxed_tagged-returns-then-nests-clause-behind g t c = c.read_boxed_array.ensures.behind

pub read_boxed_tagged-returns-clause-behind : goal.read_boxed_tagged-returns-clause-behind
read_boxed_tagged-returns-clause-behind g t c = c.box_tagged.ensures.behind

pub read_data_values-returns-in_err-item-clause-behind : goal.read_data_values-returns-in_err-item-clause-behind
read_data_values-returns-in_err-item-clause-behind g t c = λ start h. c.in_err-item.ensures.behind start (c.loop.invariant.behind start h)

pub read_variants-returns-in_err-item-clause-behind : goal.read_variants-returns-in_err-item-clause-behind
read_variants-returns-in_err-item-clause-behind g t c = λ start h. c.in_err-item.ensures.behind start (c.loop.invariant.behind start h)

pub read_data_values-returns-in_err-make_room-clause-behind : goal.read_data_values-returns-in_err-make_room-clause-behind
read_data_values-returns-in_err-make_room-clause-behind g t c = c.loop.invariant.behind

pub read_variants-returns-in_err-make_room-clause-behind : goal.read_variants-returns-in_err-make_room-clause-behind
read_variants-returns-in_err-make_room-clause-behind g t c = c.loop.invariant.behind

pub read_data_values-returns-clause-behind : goal.read_data_values-returns-clause-behind
read_data_values-returns-clause-behind g t c = c.loop.invariant.behind

pub read_variants-returns-clause-behind : goal.read_variants-returns-clause-behind
read_variants-returns-clause-behind g t c = c.loop.invariant.behind

pub read_elements-returns-in_err-items-clause-behind : goal.read_elements-returns-in_err-items-clause-behind
read_elements-returns-in_err-items-clause-behind g t c = c.in_err-items.ensures.behind

pub read_elements-returns-in_err-dims-clause-behind : goal.read_elements-returns-in_err-dims-clause-behind
read_elements-returns-in_err-dims-clause-behind g t c = λ start h. c.in_err-dims.ensures.behind start (c.in_ok-items.ensures.behind start h)

pub read_elements-returns-clause-behind : goal.read_elements-returns-clause-behind
read_elements-returns-clause-behind g t c = λ start h. c.in_ok-dims.ensures.behind start (c.in_ok-items.ensures.behind start h)

pub read_row-returns-in_err-read_packed-clause-behind : goal.read_row-returns-in_err-read_packed-clause-behind
read_row-returns-in_err-read_packed-clause-behind g t c = c.in_err-read_packed.ensures.behind

pub read_row-returns-then-is_packed-clause-behind : goal.read_row-returns-then-is_packed-clause-behind
read_row-returns-then-is_packed-clause-behind g t c = c.in_ok-read_packed.ensures.behind

pub read_row-returns-in_err-read_data_values-in-23-clause-behind : goal.read_row-returns-in_err-read_data_values-in-23-clause-behind
read_row-returns-in_err-read_data_values-in-23-clause-behind g t c = c.in_err-read_data_values-in-23.ensures.behind

pub read_row-returns-in_err-read_variants-in-24-clause-behind : goal.read_row-returns-in_err-read_variants-in-24-clause-behind
read_row-returns-in_err-read_variants-in-24-clause-behind g t c = c.in_err-read_variants-in-24.ensures.behind

pub read_row-returns-in_err-read_records-in_default-clause-behind : goal.read_row-returns-in_err-read_records-in_default-clause-behind
read_row-returns-in_err-read_records-in_default-clause-behind g t c = c.in_err-read_records-in_default.ensures.behind

pub read_row-returns-in_ok-read_data_values-in-23-clause-behind : goal.read_row-returns-in_ok-read_data_values-in-23-clause-behind
read_row-returns-in_ok-read_data_values-in-23-clause-behind g t c = c.in_ok-read_data_values-in-23.ensures.behind

pub read_row-returns-in_ok-read_variants-in-24-clause-behind : goal.read_row-returns-in_ok-read_variants-in-24-clause-behind
read_row-returns-in_ok-read_variants-in-24-clause-behind g t c = c.in_ok-read_variants-in-24.ensures.behind

pub read_row-returns-in_ok-read_records-in_default-clause-behind : goal.read_row-returns-in_ok-read_records-in_default-clause-behind
read_row-returns-in_ok-read_records-in_default-clause-behind g t c = c.in_ok-read_records-in_default.ensures.behind

pub read_row-returns-in-25-clause-behind : goal.read_row-returns-in-25-clause-behind
read_row-returns-in-25-clause-behind g t c = c.read_diagnostic_row.ensures.behind

pub read_scalar-returns-in_err-read_boxed_data_value-in-23-clause-behind : goal.read_scalar-returns-in_err-read_boxed_data_value-in-23-clause-behind
read_scalar-returns-in_err-read_boxed_data_value-in-23-clause-behind g t c = c.in_err-read_boxed_data_value-in-23.ensures.behind

pub read_scalar-returns-in_err-read_boxed_variant-in-24-clause-behind : goal.read_scalar-returns-in_err-read_boxed_variant-in-24-clause-behind
read_scalar-returns-in_err-read_boxed_variant-in-24-clause-behind g t c = c.in_err-read_boxed_variant-in-24.ensures.behind

pub read_scalar-returns-in_ok-read_boxed_data_value-in-23-clause-behind : goal.read_scalar-returns-in_ok-read_boxed_data_value-in-23-clause-behind
read_scalar-returns-in_ok-read_boxed_data_value-in-23-clause-behind g t c = c.in_ok-read_boxed_data_value-in-23.ensures.behind

pub read_scalar-returns-in_ok-read_boxed_variant-in-24-clause-behind : goal.read_scalar-returns-in_ok-read_boxed_variant-in-24-clause-behind
read_scalar-returns-in_ok-read_boxed_variant-in-24-clause-behind g t c = c.in_ok-read_boxed_variant-in-24.ensures.behind

pub read_scalar-returns-in-25-clause-behind : goal.read_scalar-returns-in-25-clause-behind
read_scalar-returns-in-25-clause-behind g t c = c.read_boxed_diagnostic.ensures.behind

pub read_scalar-returns-in_default-clause-behind : goal.read_scalar-returns-in_default-clause-behind
read_scalar-returns-in_default-clause-behind g t c = c.read_leaf.ensures.behind

pub read_tagged-returns-then-tag-ge-ARRAY-clause-behind : goal.read_tagged-returns-then-tag-ge-ARRAY-clause-behind
read_tagged-returns-then-tag-ge-ARRAY-clause-behind g t c = c.read_array.ensures.behind

pub read_tagged-returns-in_err-read_scalar-clause-behind : goal.read_tagged-returns-in_err-read_scalar-clause-behind
read_tagged-returns-in_err-read_scalar-clause-behind g t c = c.in_err-read_scalar.ensures.behind

pub read_tagged-returns-clause-behind : goal.read_tagged-returns-clause-behind
read_tagged-returns-clause-behind g t c = c.in_ok-read_scalar.ensures.behind

pub read_values-returns-in-23-clause-behind : goal.read_values-returns-in-23-clause-behind
read_values-returns-in-23-clause-behind g t c = c.read_data_values.ensures.behind

pub read_values-returns-in_default-clause-behind : goal.read_values-returns-in_default-clause-behind
read_values-returns-in_default-clause-behind g t c = c.read_variants.ensures.behind

-- an array behind its first byte
pub read_tagged-returns-then-tag-ge-ARRAY-clause-exact : goal.read_tagged-returns-then-tag-ge-ARRAY-clause-exact
read_tagged-returns-then-tag-ge-ARRAY-clause-exact g t c =
    let old = g.S.Source.octets c.args.src.now in
    let tag = c.args.tag in
    let scalars = scalars_at c.args.depth in
    let kind : bit_and tag 0x3F ≡ tag % 0x40 = and_mask tag 6 in
    let some : eqb tag 0 ≡ false = search rules in
    let high : leb 0x80 tag ≡ true = search rules in
    let octet : leb tag 0xFF ≡ true = search rules in
    let read : is_read_kind (tag % 0x40) ≡ true = ap is_read_kind (sym kind) ∙ sym c.is_read_kind.ensures ∙ c.if-not-is_read_kind.false in
    gives_same variant_of (variant_after scalars tag) (variant_array_at scalars (bit_and tag 0x3F) (has tag 0x40)) old
    (g.S.Source.octets c.read_array.new.src) c.read_array.result
    (array_passed scalars tag old some high (ap (λ b. b && leb tag 0xFF) read ∙ octet)
    ∙ ap (λ k. variant_array_at scalars k (has tag 0x40) old) (sym kind))
    c.read_array.ensures.exact

pub read_tagged-returns-then-not-is_read_kind-clause-exact : goal.read_tagged-returns-then-not-is_read_kind-clause-exact
read_tagged-returns-then-not-is_read_kind-clause-exact g t c =
    let old = g.S.Source.octets c.args.src.now in
    let tag = c.args.tag in
    let scalars = scalars_at c.args.depth in
    let kind : bit_and tag 0x3F ≡ tag % 0x40 = and_mask tag 6 in
    let some : eqb tag 0 ≡ false = search rules in
    let high : leb 0x80 tag ≡ true = search rules in
    let read : is_read_kind (tag % 0x40) ≡ false = ap is_read_kind (sym kind) ∙ sym c.is_read_kind.ensures ∙ c.if-not-is_read_kind.true in
    no_array scalars tag old some high (ap (λ b. b && leb tag 0xFF) read)

pub read_boxed_tagged-returns-then-nests-clause-exact : goal.read_boxed_tagged-returns-then-nests-clause-exact
read_boxed_tagged-returns-then-nests-clause-exact g t c =
    let old = g.S.Source.octets c.args.src.now in
    let tag = c.args.tag in
    let scalars = scalars_at c.args.depth in
    let kind : bit_and tag 0x3F ≡ tag % 0x40 = and_mask tag 6 in
    let some : eqb tag 0 ≡ false = search rules in
    let high : leb 0x80 tag ≡ true = search rules in
    let octet : leb tag 0xFF ≡ true = search rules in
    let read : is_read_kind (tag % 0x40) ≡ true = ap is_read_kind (sym kind) ∙ c.nests.ensures.read c.if-nests.true in
    gives_same (λ (v : VariantData). v) (variant_after scalars tag) (variant_array_at scalars (bit_and tag 0x3F) (has tag 0x40)) old
    (g.S.Source.octets c.read_boxed_array.new.src) c.read_boxed_array.result
    (array_passed scalars tag old some high (ap (λ b. b && leb tag 0xFF) read ∙ octet)
    ∙ ap (λ k. variant_array_at scalars k (has tag 0x40) old) (sym kind))
    c.read_boxed_array.ensures.exact

-- behind the first byte
pub read_boxed_variant-returns-clause-exact : goal.read_boxed_variant-returns-clause-exact
read_boxed_variant-returns-clause-exact g t c =
    gives_behind (λ (v : VariantData). v) (variant_at c.args.depth) (variant_after (scalars_at c.in_ok-inner.inner) c.in_ok-inner.tag)
    (g.S.Source.octets c.args.src.now) (g.S.Source.octets c.read_tag.new.src) (g.S.Source.octets c.read_boxed_tagged.new.src) c.read_boxed_tagged.result
    c.in_ok-inner.ensures.ok c.read_boxed_tagged.ensures.exact

pub read_boxed_variant-returns-in_err-inner-clause-behind : goal.read_boxed_variant-returns-in_err-inner-clause-behind
read_boxed_variant-returns-in_err-inner-clause-behind g t c = c.in_err-inner.ensures.behind

pub read_boxed_variant-returns-clause-behind : goal.read_boxed_variant-returns-clause-behind
read_boxed_variant-returns-clause-behind g t c = λ start h. c.read_boxed_tagged.ensures.behind start (c.in_ok-inner.ensures.behind start h)

pub read_boxed_data_value-returns-in_err-inner-clause-behind : goal.read_boxed_data_value-returns-in_err-inner-clause-behind
read_boxed_data_value-returns-in_err-inner-clause-behind g t c = c.in_err-inner.ensures.behind

pub read_boxed_data_value-returns-then-not-set-clause-behind : goal.read_boxed_data_value-returns-then-not-set-clause-behind
read_boxed_data_value-returns-then-not-set-clause-behind g t c = λ start h. c.box_data_value.ensures.behind start (c.in_ok-inner.ensures.behind start h)

pub read_boxed_data_value-returns-in_err-value-clause-behind : goal.read_boxed_data_value-returns-in_err-value-clause-behind
read_boxed_data_value-returns-in_err-value-clause-behind g t c = λ start h. c.in_err-value.ensures.behind start (c.in_ok-inner.ensures.behind start h)

pub read_boxed_data_value-returns-clause-behind : goal.read_boxed_data_value-returns-clause-behind
read_boxed_data_value-returns-clause-behind g t c = λ start h.
    c.box_data_value-2.ensures.behind start (c.in_ok-value.ensures.behind start (c.in_ok-inner.ensures.behind start h))
