-- One name that opens every definition by which a history and the tests of a volume are worked out, for facts that are computed. Assumes
-- nothing.
use Rattle.message.specs.Choice.{any_of}
use Rattle.message.specs.Causes.{first_failure, judged_by}
use Rattle.message.specs.Numbers.{put, number_at, numbers_at, bytes_for, bytes_for_each}
use Rattle.message.specs.Logs.{is_prefix, same_log, in_step, names_of, counts_of}
use Rattle.message.specs.Message.{message_bytes, bytes_of, meaning_in, malformed, read_of}
use Rattle.agreement.specs.Sets.{weigh}
use Rattle.agreement.specs.Reading.{may_support, supports, longest}
use Rattle.agreement.specs.Kept.{word_on}
use Rattle.agreement.specs.Heard.{some_differs, kept_of, logs_from, grade_now, grade_with, proposals_from, vote_among}
use Rattle.agreement.specs.Proposals.{best_of}
use Rattle.bench.specs.Acts.{propose, vote, makes, settle}
use Rattle.bench.specs.Terms.{weight_of}
use Rattle.bench.specs.Totals.{sum_of, block_holding, inside_block}
use Rattle.bench.specs.History.{refusal, word_for, file, heard_at, grade_at, used_at, made_by, decided_by, accepted, accepted_answer, step, answer}
use Rattle.bench.specs.History.{after_from, after, answers_from, answers_to, acted_at, awake, stand_in, stand}
use Rattle.demand.proofs.Decided.{decided_in}
use Rattle.demand.proofs.ListTests.{all, any, all_below}
use Rattle.demand.proofs.Checks.{sent_read, sent_made, sent_by, sent_list, same_content, made_it, act_made, deliveredb, numberedb}
use Rattle.demand.proofs.Checks.{majorityb}
use Rattle.demand.proofs.TypedChecks.{typedb, volume_typedb}

unfoldable pub computed : Unit {0}
unfolding
    any_of judged_by first_failure put number_at numbers_at bytes_for bytes_for_each is_prefix same_log in_step names_of counts_of message_bytes bytes_of
    meaning_in malformed read_of
    weight_of weigh may_support supports longest word_on some_differs kept_of logs_from grade_now grade_with proposals_from vote_among best_of
    propose vote makes settle sum_of block_holding inside_block refusal word_for file heard_at grade_at used_at made_by decided_by accepted
    accepted_answer step answer
    after_from after answers_from answers_to acted_at awake decided_in stand_in stand
    all any all_below sent_read sent_made sent_by sent_list same_content made_it act_made deliveredb numberedb majorityb typedb volume_typedb
computed = tt
