use Rattle.std.proofs.Common.{rules, append_assoc}
use Rattle.ua_serving.specs.Served.{request_line}
use Rattle.ua_serving.proofs.serve.request_text.Goals as goal

pub returns : goal.returns
unfolding request_line
returns c = search (rules, append_assoc)
