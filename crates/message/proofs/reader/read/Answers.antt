use Rattle.message.proofs.ReaderLaws.{room_for_names, read_1, read_2, read_3, read_4, read_5, read_6, read_log, read_proposal}
use Rattle.message.proofs.reader.read.Goals as goal

pub returns-then-len-lt-HEAD_LENGTH : goal.returns-then-len-lt-HEAD_LENGTH
returns-then-len-lt-HEAD_LENGTH c = search read_1

pub returns-then-k-len : goal.returns-then-k-len
returns-then-k-len c = search read_2

pub returns-then-is_malformed : goal.returns-then-is_malformed
returns-then-is_malformed c = search read_3

pub returns-then-n-sender : goal.returns-then-n-sender
returns-then-n-sender c = search read_4

pub returns-then-view-gt-LAST_VIEW : goal.returns-then-view-gt-LAST_VIEW
returns-then-view-gt-LAST_VIEW c = search read_5

pub zero_named-requires : goal.zero_named-requires
zero_named-requires c = search room_for_names

pub returns-then-zero_named : goal.returns-then-zero_named
returns-then-zero_named c = search read_6

pub returns-then-bytes-eq-LOG_KIND : goal.returns-then-bytes-eq-LOG_KIND
returns-then-bytes-eq-LOG_KIND c = search read_log

pub returns : goal.returns
returns c = search read_proposal
