use Rattle.ua_channel_laws.proofs.ClientMerges.{reads_merged, reads_messages, reads_once, reads_tokens}
use Rattle.ua_channel_laws.proofs.merge_laws.client_reads_merged.Goals as goal

pub returns-clause-reads : goal.returns-clause-reads
returns-clause-reads c = reads_merged

pub returns-clause-messages : goal.returns-clause-messages
returns-clause-messages c = reads_messages

pub returns-clause-once : goal.returns-clause-once
returns-clause-once c = reads_once

pub returns-clause-tokens : goal.returns-clause-tokens
returns-clause-tokens c = reads_tokens

pub returns-clause-first : goal.returns-clause-first
returns-clause-first c = λ limits asks octets told at r. record { frames = r.frames; run = r.run; follows = r.follows }
