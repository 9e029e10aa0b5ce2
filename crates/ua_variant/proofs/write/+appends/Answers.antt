use Rattle.std.proofs.Common.{[], ◌∷◌, ◌++◌, ap, ◌∙◌, ◌+◌, arith, map, sym}
use Rattle.std.proofs.lemmas.List.{take_all}
use Rattle.std.proofs.lemmas.Result.{on_ok_weaker}
use Rattle.ua_builtin.specs.Number.{number_octets}
use Rattle.ua_diagnostic.specs.Dimensions.{dims_canonical}
use Rattle.ua_variant.specs.View.{row, scalar_of, elements_of, variant_of, data_fields_of}
use Rattle.ua_variant.specs.Canonical.{scalar_canonical, row_canonical, variant_canonical, data_fields_canonical}
use Rattle.ua_wire.proofs.Appends.{then_more, then_ok, more_then, on_err}
use Rattle.ua_variant.proofs.Rows.{count_below}
use Rattle.ua_variant.proofs.Fits.{fits_within}
use Rattle.ua_variant.specs.Measure.{variant_count}
use Rattle.ua_variant.specs.Encodable.{variant_fits}
use Rattle.ua_variant.proofs.Valued.{fields_fit, valued_fits, valued_counts}
use Rattle.ua_variant.proofs.Written.{row_after}
use Rattle.ua_variant.proofs.write.+appends.Goals as goal

pub append_row-append_scalar-requires : goal.append_row-append_scalar-requires
append_row-append_scalar-requires t c = (
  omega (
    arith,
    count_below c.deref-s-items.result.now c.loop-s.s-index c.s-item.result c.args.items.now (ap (map scalar_of) c.deref-s-items.ensures.value
        ∙ ap elements_of (sym c.in-Mixed.is) ∙ c.elements.ensures) (omega arith) c.s-item.is,
  ),
  fits_within c.args.kind c.deref-s-items.result.now c.loop-s.s-index c.s-item.result c.args.items.now (ap (map scalar_of) c.deref-s-items.ensures.value
      ∙ ap elements_of (sym c.in-Mixed.is) ∙ c.elements.ensures) (omega arith) c.s-item.is c.requires,
)

pub append_row-loop-s-preserved : goal.append_row-loop-s-preserved
append_row-loop-s-preserved t c =
    c.in_ok-append_scalar.ensures.ok ∙ ap (λ xs. xs ++ scalar_canonical (scalar_of c.s-item.result)) c.loop-s.invariant
    ∙ row_after c.args.out.now.items c.deref-s-items.result.now c.loop-s.s-index c.s-item.result (omega arith) c.s-item.is

pub append_data_value-append_valued-requires : goal.append_data_value-append_valued-requires
append_data_value-append_valued-requires t c = (
  omega (arith, valued_counts c.args.value.now c.in-Some.v c.in-Some.is, ap variant_count c.get.ensures),
  (fields_fit c.args.value.now c.requires, ap variant_fits c.get.ensures ∙ valued_fits c.args.value.now c.in-Some.v c.in-Some.is c.requires),
)

pub append_row-returns-in-Packed-clause-ok : goal.append_row-returns-in-Packed-clause-ok
append_row-returns-in-Packed-clause-ok t c =
    on_ok_weaker c.append.result (λ e. e ∙ ap (λ ss. c.args.out.now.items ++ row_canonical (row ss))
    (ap elements_of (sym c.in-Packed.is) ∙ c.elements.ensures)) c.append.ensures.ok

pub append_row-returns-in-Packed-clause-err : goal.append_row-returns-in-Packed-clause-err
append_row-returns-in-Packed-clause-err t c = c.append.ensures.err

pub append_row-returns-in_err-append_scalar-clause-err : goal.append_row-returns-in_err-append_scalar-clause-err
append_row-returns-in_err-append_scalar-clause-err t c =
    let r = c.from_residual.result in
    more_then r c.args.out.now.items c.loop-s.out.items c.append_scalar.new.out.items _ c.loop-s.invariant
    (on_err r c.in_err-append_scalar.ensures.err)

pub append_row-returns-clause-ok : goal.append_row-returns-clause-ok
append_row-returns-clause-ok t c =
    c.loop-s.invariant ∙ ap (λ ss. c.args.out.now.items ++ row_canonical (row ss))
    (ap (map scalar_of) (take_all c.loop-s.s-index c.deref-s-items.result.now (omega arith) ∙ c.deref-s-items.ensures.value)
    ∙ ap elements_of (sym c.in-Mixed.is) ∙ c.elements.ensures)

pub append_array-returns-in_err-append-clause-err : goal.append_array-returns-in_err-append-clause-err
append_array-returns-in_err-append-clause-err t c =
    let r = c.from_residual-in_err-append.result in
    more_then r c.args.out.now.items c.push.new.self.items c.append.new.out.items (c.array_tag.result ∷ []) c.in_ok-push.ensures.items
    (on_err r c.in_err-append.ensures.err)

pub append_array-returns-in_err-append_row-clause-err : goal.append_array-returns-in_err-append_row-clause-err
append_array-returns-in_err-append_row-clause-err t c =
    let r = c.from_residual-in_err-append_row.result in
    more_then r c.args.out.now.items c.push.new.self.items c.append_row.new.out.items (c.array_tag.result ∷ []) c.in_ok-push.ensures.items
    (more_then r c.push.new.self.items c.append.new.out.items c.append_row.new.out.items (number_octets 4 c.element_count-n.result)
    c.in_ok-append.ensures.ok
    (on_err r c.in_err-append_row.ensures.err))

pub append_array-returns-in_err-append_dims-clause-err : goal.append_array-returns-in_err-append_dims-clause-err
append_array-returns-in_err-append_dims-clause-err t c =
    let r = c.from_residual-in_err-append_dims.result in
    more_then r c.args.out.now.items c.push.new.self.items c.append_dims.new.out.items (c.array_tag.result ∷ []) c.in_ok-push.ensures.items
    (more_then r c.push.new.self.items c.append.new.out.items c.append_dims.new.out.items (number_octets 4 c.element_count-n.result)
    c.in_ok-append.ensures.ok
    (more_then r c.append.new.out.items c.append_row.new.out.items c.append_dims.new.out.items (row_canonical (row c.args.items.now))
    c.in_ok-append_row.ensures.ok
    (on_err r c.in_err-append_dims.ensures.err)))

pub append_array-returns-clause-ok : goal.append_array-returns-clause-ok
append_array-returns-clause-ok t c =
    let old = c.args.out.now.items in
    let tagged = c.push.new.self.items in
    then_more old tagged c.append_dims.new.out.items _ _ (c.in_ok-push.ensures.items ∙ ap (λ tag. old ++ tag ∷ []) c.array_tag.ensures)
    (then_more tagged c.append.new.out.items c.append_dims.new.out.items _ _
    (c.in_ok-append.ensures.ok ∙ ap (λ n. tagged ++ number_octets 4 n) c.element_count-n.ensures)
    (then_more c.append.new.out.items c.append_row.new.out.items c.append_dims.new.out.items (row_canonical (row c.args.items.now))
    (dims_canonical c.args.dims.now) c.in_ok-append_row.ensures.ok
    c.in_ok-append_dims.ensures.ok))

pub append_valued-returns-in_err-append_variant-clause-err : goal.append_valued-returns-in_err-append_variant-clause-err
append_valued-returns-in_err-append_variant-clause-err t c =
    let r = c.from_residual-in_err-append_variant.result in
    more_then r c.args.out.now.items c.push.new.self.items c.append_variant.new.out.items _ c.in_ok-push.ensures.items
    (on_err r c.in_err-append_variant.ensures.err)

pub append_valued-returns-clause-ok : goal.append_valued-returns-clause-ok
append_valued-returns-clause-ok t c =
    let old = c.args.out.now.items in
    let r = c.append_data_fields.result in
    then_ok r old c.push.new.self.items c.append_data_fields.new.out.items _ _
    (c.in_ok-push.ensures.items ∙ ap (λ mask. old ++ (mask + 1) ∷ []) c.data_mask.ensures.value)
    (then_ok r c.push.new.self.items c.append_variant.new.out.items c.append_data_fields.new.out.items (variant_canonical (variant_of c.args.value.now))
    (data_fields_canonical (data_fields_of c.args.beside.now)) c.in_ok-append_variant.ensures.ok
    c.append_data_fields.ensures.ok)

pub append_valued-returns-clause-err : goal.append_valued-returns-clause-err
append_valued-returns-clause-err t c =
    let r = c.append_data_fields.result in
    more_then r c.args.out.now.items c.push.new.self.items c.append_data_fields.new.out.items _ c.in_ok-push.ensures.items
    (more_then r c.push.new.self.items c.append_variant.new.out.items c.append_data_fields.new.out.items (variant_canonical (variant_of c.args.value.now))
    c.in_ok-append_variant.ensures.ok
    c.append_data_fields.ensures.err)

pub append_variant-returns-in_err-append_scalar-in-One-clause-err : goal.append_variant-returns-in_err-append_scalar-in-One-clause-err
append_variant-returns-in_err-append_scalar-in-One-clause-err t c =
    let r = c.from_residual-in_err-append_scalar-in-One.result in
    more_then r c.args.out.now.items c.push-in-One.new.self.items c.append_scalar.new.out.items _ c.in_ok-push-in-One.ensures.items
    (on_err r c.in_err-append_scalar-in-One.ensures.err)

pub append_variant-returns-in_ok-append_scalar-in-One-clause-ok : goal.append_variant-returns-in_ok-append_scalar-in-One-clause-ok
append_variant-returns-in_ok-append_scalar-in-One-clause-ok t c =
    let old = c.args.out.now.items in
    then_more old c.push-in-One.new.self.items c.append_scalar.new.out.items _ (scalar_canonical (scalar_of c.in-One.s))
    (c.in_ok-push-in-One.ensures.items ∙ ap (λ tag. old ++ tag ∷ []) c.kind.ensures) c.in_ok-append_scalar-in-One.ensures.ok
    ∙ ap (λ v. old ++ variant_canonical (variant_of v)) (sym c.in-One.is)

pub append_variant-returns-in_err-append-in-Many-default-None-default-clause-err :
    goal.append_variant-returns-in_err-append-in-Many-default-None-default-clause-err
append_variant-returns-in_err-append-in-Many-default-None-default-clause-err t c =
    let r = c.from_residual-in_err-append-in-Many-default-None-default.result in
    more_then r c.args.out.now.items c.push-in-Many-default-None-default.new.self.items c.append.new.out.items _
    c.in_ok-push-in-Many-default-None-default.ensures.items
    (on_err r c.in_err-append-in-Many-default-None-default.ensures.err)
