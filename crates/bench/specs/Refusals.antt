-- The numbers of the calls' refusals (document 01: 1 to 11 "From the input", 20 to 23 "From the state"). Assumes nothing.
use Rattle.std.specs.Prelude.{ℕ}
use Rattle.message.specs.Refusals.{number_of}
use Rattle.bench.specs.declared.refusal.Refusal.{Refusal}
use Rattle.bench.specs.declared.refusal.Refusal.TheVariants.{Message, Numbers, Lists, Record, Beat, Buffer, NotAbove, NotOpen, NoGathering, NoEntry}

-- 1 to 6: the message's; 7: n or own number; 8: a lent list too short; 9: the record; 10: a beat past the last; 11: the outgoing buffer;
-- 20: a beat not above the last begun; 21: a view not open; 22: no gathering under way; 23: an entry at or above the total
abbrev pub refusal_number : Refusal → ℕ
refusal_number (Message why) = number_of why
refusal_number Numbers = 7
refusal_number Lists = 8
refusal_number Record = 9
refusal_number Beat = 10
refusal_number Buffer = 11
refusal_number NotAbove = 20
refusal_number NotOpen = 21
refusal_number NoGathering = 22
refusal_number NoEntry = 23
