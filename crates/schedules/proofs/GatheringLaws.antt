-- Begin, Receive and Act in a row: what each promises, put together. Assumes nothing.
use Prim.Native.Nat.{ℕ}
use mathlib.Core.List.{List, [], ◌∷◌}
use mathlib.Core.Path.{◌≡◌, ◌∙◌, ap, sym}
use Rattle.std.specs.Prelude.{Result}
use Rattle.message.specs.Logs.{Block}
use Rattle.agreement.specs.declared.Answer as filing
use Rattle.bench.specs.Calls.{Answer, State, Step}
use Rattle.bench.specs.ByRecord.{begin_of, receive_of, act_of}
use Rattle.bench.specs.Answers.{held_with, state_of, start_reply, taken_reply, made_reply, BeginGives, ReceiveGives, ActGives}
use Rattle.bench.proofs.Buffer.{begin_out, receive_out}
use Rattle.bench.specs.Record.{bench_of}
use Rattle.bench.specs.declared.Bench.{Bench}
use Rattle.bench.specs.declared.refusal.Refusal.{Refusal}
use Rattle.bench.specs.declared.Made.{Made}
use Rattle.demand.proofs.MachineLaws.{runs_nil, runs_cons, answers_nil, answers_cons}
use Rattle.schedules.specs.Gathering.{gathering_of, GatheringGives}

module _ (x : State) (beat : ℕ) (message : List ℕ) (block : Block) (priority : ℕ) (out : List ℕ) (h₁ h₂ h₃ : Bench)
    (ns₁ cs₁ ts₁ ns₂ cs₂ ts₂ ns₃ cs₃ ts₃ left : List ℕ) (r₁ : Result (Unit {0}) Refusal)
    (r₂ : Result filing.Answer Refusal) (r₃ : Result Made Refusal) where
  abbrev begun : Step
  begun = begin_of x beat

  abbrev received : State → Step
  received s = receive_of s message

  abbrev acted : State → Step
  acted s = act_of s block priority out

  pub gathered :
      BeginGives begun r₁ (bench_of h₁) ns₁ cs₁ ts₁
      → ReceiveGives (received (state_of h₁ ns₁ cs₁ ts₁)) r₂ (bench_of h₂) ns₂ cs₂ ts₂
      → ActGives (acted (state_of h₂ ns₂ cs₂ ts₂)) r₃ (bench_of h₃) ns₃ cs₃ ts₃ left
      → GatheringGives x (gathering_of beat message block priority out)
      (record { started = r₁; taken = r₂; made = r₃ }) h₃ ns₃ cs₃ ts₃ left
  gathered b r a =
      let one : state_of h₁ ns₁ cs₁ ts₁ ≡ begun.held = λ i. held_with (b.bench i) (b.name_list i) (b.count_list i) (b.total_list i) in
      let two : state_of h₂ ns₂ cs₂ ts₂ ≡ (received begun.held).held =
      (λ i. held_with (r.bench i) (r.name_list i) (r.count_list i) (r.total_list i)) ∙ ap (λ (s : State). (received s).held) one in
      let three : state_of h₃ ns₃ cs₃ ts₃ ≡ (acted (received begun.held).held).held =
      (λ i. held_with (a.bench i) (a.name_list i) (a.count_list i) (a.total_list i)) ∙ ap (λ (s : State). (acted s).held) two in
      let started : ◌≡◌ {A = Answer} (record { reply = start_reply r₁; out = [] }) begun.answer =
      λ i. record { reply = b.answered i; out = sym (begin_out x beat) i } in
      let taken : ◌≡◌ {A = Answer} (record { reply = taken_reply r₂; out = [] }) (received begun.held).answer =
      (λ i. record { reply = r.answered i; out = sym (receive_out (state_of h₁ ns₁ cs₁ ts₁) message) i })
      ∙ ap (λ (s : State). (received s).answer) one in
      let made : ◌≡◌ {A = Answer} (record { reply = made_reply left r₃; out = left }) (acted (received begun.held).held).answer =
      (λ i. record { reply = a.answered i; out = a.buffer i }) ∙ ap (λ (s : State). (acted s).answer) two in
      record {
        answered = rw (answers_cons, answers_cons, answers_cons, answers_nil) (λ i. started i ∷ taken i ∷ made i ∷ []);
        held = rw (runs_cons, runs_cons, runs_cons, runs_nil) three;
      }
