-- What a comparison takes, it takes in the type in which its operands meet.
use Rattle.paper.specs.Code.{comparison_of}
use Rattle.paper.proofs.MeetingTypes.{compares_where_met}
use Rattle.values.specs.Typed.{ty_meant}
use Rattle.values.proofs.operators.comparison_type.Goals as goal

pub returns : goal.returns
returns c =
    let a = c.args in
    rw (compares_where_met (comparison_of a.comparison) (ty_meant a.a) (ty_meant a.b), ← c.meet.ensures, c.in_ok-met.was)
    c.compare_type.ensures
