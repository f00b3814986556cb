use Rattle.run.proofs.EventLaws.{text_none, text_shut, text_whole}
use Rattle.run.proofs.roll_text.Goals as goal

pub returns-in_default : goal.returns-in_default
returns-in_default c = search (text_none, c.in_default.ensures)

pub returns-in_default-opened : goal.returns-in_default-opened
returns-in_default-opened c =
    rw (← c.in-Some.ensures)
    (text_shut _ _ c.if-text-lt-MOST_ROLL.false _ _ c.in-Some.roll.shaped c.in_default-opened.ensures c.put_no_roll-in_default-opened.ensures)

pub returns : goal.returns
returns c =
    let opens = c.in-Some-opened.ensures in
    rw (← c.in-Some.ensures)
    (text_whole _ _ c.if-text-lt-MOST_ROLL.false _ _ c.in-Some.roll.shaped opens.0 _ opens.1 _ _
    c.put_first_line-p.ensures.puts _ c.events.ensures.0 _ c.run_events-ran.ensures)
