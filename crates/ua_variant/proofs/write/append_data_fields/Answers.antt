use Rattle.ua_variant.specs.View.{data_fields_of}
use Rattle.ua_variant.proofs.Written.{data_fields_parts}
use Rattle.ua_variant.proofs.write.append_data_fields.Goals as goal

pub append_three-requires : goal.append_three-requires
append_three-requires c =
    let fit = data_fields_parts (data_fields_of c.args.value.now) c.requires in
    record {
      first = search (fit.0, fit.1, fit.2, fit.3, fit.4);
      second = search (fit.0, fit.1, fit.2, fit.3, fit.4);
      third = search (fit.0, fit.1, fit.2, fit.3, fit.4);
    }

pub append_two-requires : goal.append_two-requires
append_two-requires c =
    let fit = data_fields_parts (data_fields_of c.args.value.now) c.requires in
    record { first = search (fit.0, fit.1, fit.2, fit.3, fit.4); second = search (fit.0, fit.1, fit.2, fit.3, fit.4) }
