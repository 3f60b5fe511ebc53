-- Pieces that are cut.
use Rattle.std.proofs.Common.{◌≡◌, ℕ, List, [], ◌∷◌, ◌++◌, map, refl, sym, ap, ◌∙◌, append_assoc}
use Rattle.std.specs.List.{concat}
use Rattle.mqtt5_drive.specs.declared.run.Step.{Step}
use Rattle.mqtt5_drive.specs.Run.{Turn, Byte, byte_turns, of_input, turns, piece}

pub bytes_of-append : (at : ℕ) (xs ys : List ℕ) → byte_turns at (xs ++ ys) ≡ byte_turns at xs ++ byte_turns at ys
bytes_of-append at [] ys = refl
bytes_of-append at (x ∷ xs) ys = ap (λ (more : List Turn). Byte at x ∷ more) (bytes_of-append at xs ys)

-- pieces are their bytes
pieces : (at : ℕ) (xss : List (List ℕ)) (after : List Step) → turns (map (piece at) xss ++ after) ≡ byte_turns at (concat xss) ++ turns after
pieces at [] after = refl
pieces at (xs ∷ xss) after =
    ap (λ (more : List Turn). byte_turns at xs ++ more) (pieces at xss after)
    ∙ sym (append_assoc (byte_turns at xs) (byte_turns at (concat xss)) (turns after))
    ∙ ap (λ (more : List Turn). more ++ turns after) (sym (bytes_of-append at xs (concat xss)))

pub cut : (before after : List Step) (at : ℕ) (xss yss : List (List ℕ)) → concat xss ≡ concat yss → turns (before ++ map (piece at) xss ++ after) ≡ turns (before ++ map (piece at) yss ++ after)
cut [] after at xss yss same = pieces at xss after ∙ ap (λ xs. byte_turns at xs ++ turns after) same ∙ sym (pieces at yss after)
cut (step ∷ before) after at xss yss same = ap (λ (more : List Turn). of_input step.at step.input ++ more) (cut before after at xss yss same)
