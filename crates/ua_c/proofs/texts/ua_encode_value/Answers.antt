use Rattle.std.proofs.Common.{inl, inr, refl}
use Rattle.ua_c.proofs.texts.ua_encode_value.Goals as goal

-- the type and the text denote no value
pub returns-in-Err : goal.returns-in-Err
returns-in-Err c = inr ((refl, refl), inl c.in-Err.ensures.fault)
