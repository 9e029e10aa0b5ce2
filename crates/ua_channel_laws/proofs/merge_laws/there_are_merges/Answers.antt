use Rattle.ua_channel_laws.proofs.ExampleMerges.{client_merges, client_next, client_reads, heard, server_merges, server_next, server_reads, told}
use Rattle.ua_channel_laws.proofs.merge_laws.there_are_merges.Goals as goal

pub returns-clause-server_reads : goal.returns-clause-server_reads
returns-clause-server_reads c = server_reads

pub returns-clause-client_reads : goal.returns-clause-client_reads
returns-clause-client_reads c = client_reads

pub returns-clause-server_next : goal.returns-clause-server_next
returns-clause-server_next c = server_next

pub returns-clause-client_next : goal.returns-clause-client_next
returns-clause-client_next c = client_next

pub returns-clause-server_merges : goal.returns-clause-server_merges
returns-clause-server_merges c = server_merges

pub returns-clause-client_merges : goal.returns-clause-client_merges
returns-clause-client_merges c = client_merges

pub returns-clause-told : goal.returns-clause-told
returns-clause-told c = told

pub returns-clause-heard : goal.returns-clause-heard
returns-clause-heard c = heard
