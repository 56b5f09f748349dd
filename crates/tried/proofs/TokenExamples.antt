-- Each example of tokens is computed from the definitions.
use mathlib.Core.Path.{refl}
use Rattle.paper.specs.Tokens.{tokens}
use Rattle.tried.specs.TokenExamples.{ByteClasses, Crowded, TokenExamples}

classes : ByteClasses
unfolding tokens
classes =
    record {
      quoted = refl;
      blanks = refl;
      alone = refl;
      in_a_word = refl;
      in_an_id = refl;
      after_zero = refl;
      decimal = refl;
      binary = refl;
      octal_after_zero = refl;
      octal = refl;
      hexadecimal = refl;
      not_in_a_string = refl;
      ends_a_comment = refl;
    }

crowds : Crowded
unfolding tokens
crowds = record { in_room = refl; too_many = refl; too_large = refl }

pub token_examples : TokenExamples
unfolding tokens
token_examples = record { classes = classes; two_bytes = refl; texts = refl; numbers = refl; crowded = crowds }
