use Rattle.ua_diagnostic.specs.View.{diagnostic_fields_of}
use Rattle.ua_diagnostic.proofs.Written.{fields_parts}
use Rattle.ua_diagnostic.proofs.diagnostic_wire.append_fields.Goals as goal

pub append_three-requires : goal.append_three-requires
append_three-requires c =
    let fit = fields_parts (diagnostic_fields_of c.args.value.now) c.requires in
    record { first = fit.0; second = fit.1; third = fit.2 }

pub append_texts-requires : goal.append_texts-requires
append_texts-requires c =
    let fit = fields_parts (diagnostic_fields_of c.args.value.now) c.requires in
    record { localized_text = fit.3; additional_info = fit.4; inner_status_code = fit.5 }
