use Rattle.calls.proofs.ActCases.{asks_tested, proposed, voted, decided, snapped_two}
use Rattle.calls.proofs.acts.act_at.Goals as goal

pub propose-requires : goal.propose-requires
propose-requires c = search asks_tested

pub returns-in-Proposing : goal.returns-in-Proposing
returns-in-Proposing c = search proposed

pub vote-requires : goal.vote-requires
vote-requires c = search asks_tested

pub returns-in-Voting : goal.returns-in-Voting
returns-in-Voting c = search voted

pub returns-in-Deciding : goal.returns-in-Deciding
returns-in-Deciding c = search decided

pub returns-in-Snapping : goal.returns-in-Snapping
returns-in-Snapping c = search snapped_two
