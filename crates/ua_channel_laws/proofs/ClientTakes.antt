-- What a chunk that a client takes comes to: the tokens that it leaves, and why it is refused.
use Rattle.std.proofs.Common.{◌≡◌, ℕ, true, false, not, List, [], ◌∷◌, ◌++◌, Some, map, refl, ◌∙◌, ap}
use Rattle.ua_builtin.specs.Reasons.{first_reason, renamed_reason}
use Rattle.ua_frame.specs.declared.limits.Limits.{Limits}
use Rattle.ua_opening.specs.declared.open.OpenAnswer.TheVariants.{Open}
use Rattle.ua_opening.specs.declared.secure_channel.OpenResponse.{OpenResponse}
use Rattle.ua_chunk.specs.declared.chunk.Chunk.{Chunk}
use Rattle.ua_chunk.specs.Refusal.{reasons}
use Rattle.ua_channel.specs.Asks.{Asking, is_in, pending_calls}
use Rattle.ua_channel.specs.inside.ClientParts.{why_of}
use Rattle.ua_channel.specs.ClientTable.{client_reasons, is_other}
use Rattle.ua_channel.specs.ClientTokens.{answer_in, first_channel, from_last, held_by, held_tokens, open_responses, tokens_of}
use Rattle.ua_channel.specs.ClientTold.{ours}
use Rattle.ua_channel.specs.Content.{Opening}
use Rattle.ua_channel.specs.Content.Content.{Opens, Sends}
use Rattle.ua_channel.specs.Received.{Received, after, latest}
use Rattle.ua_channel.proofs.ClientTalks.{responses-push, tokens_of-push}
use Rattle.ua_channel.proofs.HeldTokens.{held_by-push, held_by-used}

-- ---- tokens

-- using a token that is held drops those before it
pub tokens_used : (b : Received) (c : Chunk) → is_in c.token (held_tokens b) ≡ true → held_tokens (after b (Sends c)) ≡ from_last c.token (held_tokens b)
unfolding held_tokens
tokens_used b c held = held_by-used b.used c.token (tokens_of (open_responses b.openings)) held

-- a token more is held
pub held_renewed : (b : Received) (o : Opening) (r : OpenResponse) (newest : ℕ) → answer_in o ≡ Some (Open r) → latest (held_tokens b) ≡ Some newest
    → is_in r.token_id (held_tokens b) ≡ false
    → held_tokens (after b (Opens o)) ≡ held_tokens b ++ r.token_id ∷ []
unfolding held_tokens
held_renewed b o r newest answers is fresh =
    rw (responses-push b.openings o r answers) (ap (held_by b.used) (tokens_of-push (open_responses b.openings) r)
    ∙ held_by-push b.used r.token_id newest (tokens_of (open_responses b.openings)) is fresh)

-- ---- chunks

-- why a chunk is refused: for its ids, then for its number and message, then for a call that is not unanswered
pub judged_reply : (limits : Limits) (asked : List Asking) (b : Received) (c : Chunk) → first_reason (client_reasons limits b asked (Sends c))
    ≡ first_reason
    (((ours 0x807F_0000, is_other (first_channel (open_responses b.openings)) c.channel) ∷ (ours 0x8087_0000, not (is_in c.token (held_tokens b))) ∷ [])
    ++ (map (renamed_reason why_of) (reasons limits.max_message_size limits.max_chunk_count b.last b.messages c)
    ++ (ours 0x8009_0000, not (is_in c.request (pending_calls b.messages asked))) ∷ []))
judged_reply limits asked b c = refl
