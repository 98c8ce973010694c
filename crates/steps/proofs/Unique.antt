-- Of what other crates may call, any two outcomes that its contract allows leave the same, and their metrics stand for the same:
-- of a number that stands for no metric nothing more is said. `Post` is the contract as the prover reads it: of what the call is
-- given, what it returns, and what it leaves in each argument. Assumes nothing.
use mathlib.Core.Path.{◌≡◌, sym, ◌∙◌}
use denote.RattleType.{RattleType}
use Rattle.steps.specs.declared.Decoder.{Ghosts}
use Rattle.steps.proofs.forward.Reads as forward
use Rattle.steps.proofs.decode.Reads as decode

pub runs_once :
    (D R N : RattleType) (D_laws R_laws N_laws copied : _) (decoder : Ghosts D.Denot N.Denot)
    (decoder_dict clones clones_dict source source_dict κs chosen half readings steps rows : _) (r r' left left' : _) →
    forward.Post D R N D_laws R_laws N_laws copied decoder decoder_dict clones clones_dict source source_dict κs
    (chosen, (half, (readings, (steps, (rows, tt))))) r (chosen, (half, (readings, (steps, (left, tt))))) →
    forward.Post D R N D_laws R_laws N_laws copied decoder decoder_dict clones clones_dict source source_dict κs
    (chosen, (half, (readings, (steps, (rows, tt))))) r' (chosen, (half, (readings, (steps, (left', tt))))) →
    (decoder.held.pair.value r ≡ decoder.held.pair.value r') × (left.now ≡ left'.now)
runs_once D R N D_laws R_laws N_laws copied decoder decoder_dict clones clones_dict source source_dict κs chosen half readings
    steps rows r r' left left' p q = (p.ran.last ∙ sym q.ran.last, p.ran.survivors ∙ sym q.ran.survivors)

pub decodes_once :
    (D R N : RattleType) (D_laws R_laws N_laws copied : _) (decoder : Ghosts D.Denot N.Denot)
    (decoder_dict clones clones_dict source source_dict κs chosen half readings info out scratch : _)
    (r r' left left' work work' : _) →
    decode.Post D R N D_laws R_laws N_laws copied decoder decoder_dict clones clones_dict source source_dict κs
    (chosen, (half, (readings, (info, (out, (scratch, tt)))))) r
    (chosen, (half, (readings, (info, (left, (work, tt)))))) →
    decode.Post D R N D_laws R_laws N_laws copied decoder decoder_dict clones clones_dict source source_dict κs
    (chosen, (half, (readings, (info, (out, (scratch, tt)))))) r'
    (chosen, (half, (readings, (info, (left', (work', tt)))))) →
    (decoder.held.pair.value r ≡ decoder.held.pair.value r') × (left.now ≡ left'.now) × (work.now ≡ work'.now)
decodes_once D R N D_laws R_laws N_laws copied decoder decoder_dict clones clones_dict source source_dict κs chosen half readings
    info out scratch r r' left left' work work' p q = (
      p.found.scored ∙ sym q.found.scored,
      p.found.output ∙ sym q.found.output,
      p.found.survivors ∙ sym q.found.survivors,
    )
