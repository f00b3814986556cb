-- How many support a log, the number beside a grade (document 01, "Counting in one agreement"). Assumes nothing.
use Rattle.std.specs.Prelude.{ℕ, ◌||◌, List, leb, ltb}
use Rattle.message.specs.Limits.{most_blocks}
use Rattle.message.specs.Choice.{pick}
use Rattle.message.specs.Logs.{Log}
use Rattle.message.specs.Store.{log_at}
use Rattle.agreement.specs.Limits.{most_senders, place_of}
use Rattle.agreement.specs.Sets.{count}
use Rattle.agreement.specs.Reading.{supports}
use Rattle.agreement.specs.Record.{Agreement, lacks_room, overlong, reading_of}

-- How many support L, those of `among` being the ones that may (TallyLaws: tally_iff). Of a record with a length over 64, or lists without
-- room for its logs, nobody: such a record gives no grade either.
unfoldable pub supporters_of : List ℕ → List ℕ → ℕ → Agreement → ℕ → Log → ℕ
supporters_of names counts base g among L =
    pick (lacks_room names counts base || overlong g.lengths) 0 (count most_senders (supports (reading_of names counts base g among) L))

-- The same of the log of k blocks at sender i's place; nobody where that is no sender's place, or over 64 blocks and so no log.
unfoldable pub supporters_at : List ℕ → List ℕ → ℕ → Agreement → ℕ → ℕ → ℕ → ℕ
supporters_at names counts base g among i k =
    pick (leb most_senders i || ltb most_blocks k) 0 (supporters_of names counts base g among (log_at names counts (place_of base i) k))
