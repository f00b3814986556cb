-- The numbers of the reader's refusals (document 01, "From the input", 1 to 6). Assumes nothing.
use Rattle.std.specs.Prelude.{ℕ}
use Rattle.message.specs.declared.refusal.Refusal.{Refusal}
use Rattle.message.specs.declared.refusal.Refusal.TheVariants.{Short, Length, Form, Sender, View, Name}

-- 1: under 16 bytes; 2: over 64 blocks, or a length that is not 16 + 10k; 3: the kind, byte 3 or a LOG's priority is wrong; 4: the sender
-- is n or above; 5: the view is past the last; 6: a name is zero
abbrev pub number_of : Refusal → ℕ
number_of Short = 1
number_of Length = 2
number_of Form = 3
number_of Sender = 4
number_of View = 5
number_of Name = 6
