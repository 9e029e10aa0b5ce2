-- How lines are written.
use Rattle.std.specs.Prelude.{Bool, false}
use Rattle.ua_answers.specs.declared.style.AnswerStyle.{AnswerStyle}
use Rattle.ua_answers.specs.declared.style.EndpointStyle.{EndpointStyle}
use Rattle.ua_answers.specs.declared.style.LineStyle.{LineStyle}

-- lines of fields separated by spaces, without timestamps
abbrev pub plain : Bool → LineStyle
plain names = record { names = names; times = false; json = false }

-- lines of a style, with values by their bit patterns and timestamps by their ticks
abbrev pub exact : LineStyle → AnswerStyle
exact lines = record { lines = lines; plain = false }

-- `plain` for endpoints, without token policies
abbrev pub plain_endpoints : EndpointStyle
plain_endpoints = record { policies = false; json = false }
