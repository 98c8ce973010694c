-- `line::decoded_line`: the shape first, then the choice, then the decoder. Assumes nothing.
use Rattle.std.proofs.Common.{◌≡◌, sym, ◌∙◌}
use Rattle.refusal.specs.Numbers.{bad_input}
use Rattle.line.specs.Line.{info_in}
use Rattle.refusal.proofs.Told.{handed_on}
use Rattle.line.proofs.Decoding.{unshaped_said, output_refused, info_read}
use Rattle.line.proofs.Decoding.{called_behind, choice_output, refused_output, word_output}
use Rattle.line.proofs.decoded_line.Goals as goal

pub returns-then-not-is_shaped : goal.returns-then-not-is_shaped
returns-then-not-is_shaped c =
    output_refused c.args.input.now bad_input 0 (unshaped_said c.args.input.now (sym c.is_shaped.ensures ∙ c.if-not-is_shaped.true))

pub returns-in_err-refused_choice : goal.returns-in_err-refused_choice
returns-in_err-refused_choice c =
    let info : c.from-info.result ≡ info_in c.args.input.now = c.from-info.ensures ∙ c.from_le_bytes.ensures ∙ info_read _ _ in
    rw (handed_on c.from_residual.result _ c.from_residual.ensures)
    (choice_output
    record {
      is = sym c.is_shaped.ensures ∙ c.if-not-is_shaped.false;
      decides = rw info at c.in_err-refused_choice.ensures;
    })

pub returns-in_err-score : goal.returns-in_err-score
returns-in_err-score c =
    let info : c.from-info.result ≡ info_in c.args.input.now = c.from-info.ensures ∙ c.from_le_bytes.ensures ∙ info_read _ _ in
    let is = sym c.is_shaped.ensures ∙ c.if-not-is_shaped.false in
    let call =
    called_behind c.args.input.now record { is = is; decides = rw info at c.in_ok-refused_choice.ensures }
    (rw info at c.viterbi_decode_bytes.ensures.answer) in
    rw (handed_on c.from_residual-in_err-score.result _ c.from_residual-in_err-score.ensures)
    (refused_output call c.in_err-score.was)

pub returns : goal.returns
returns c =
    let info : c.from-info.result ≡ info_in c.args.input.now = c.from-info.ensures ∙ c.from_le_bytes.ensures ∙ info_read _ _ in
    let is = sym c.is_shaped.ensures ∙ c.if-not-is_shaped.false in
    let call =
    called_behind c.args.input.now record { is = is; decides = rw info at c.in_ok-refused_choice.ensures }
    (rw info at c.viterbi_decode_bytes.ensures.answer) in
    rw (word_output call c.in_ok-score.was c.viterbi_decode_bytes.new.out (rw info at c.viterbi_decode_bytes.ensures.output))
    (rw info at c.word_line.ensures)
