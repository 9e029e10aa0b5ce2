use Rattle.ua_headline.proofs.Questions.{answered_lines}
use Rattle.ua_headline.proofs.question_laws.questions_are_answered_by_the_nodes.Goals as goal

pub returns : goal.returns
returns g c = record {
  lines = λ b url policy style question first last before after had have verdict can sound line fits runs.
      answered_lines c.calls_go_on.ensures.stays c.sessions_go_on.ensures.stays c.talked_replies_are_the_responses.ensures.replied b c.args.limits url
      c.dated_openings_begin_talks.ensures.begins can sound fits g.M.Moments.gives g.O.Write.contents policy style question first
      last before after had have verdict line runs;
}
