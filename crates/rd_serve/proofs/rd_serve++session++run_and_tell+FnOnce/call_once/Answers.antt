use Rattle.rd_serve.proofs.rd_serve++session++run_and_tell+FnOnce.call_once.Goals as goal

-- the bounds of the types that are sent stand in the clauses
pub run_and_tell-requires : goal.run_and_tell-requires
run_and_tell-requires g c =
    let bounds = c.requires.1.1.1.1.1.1.1 in
    let clauses = bounds.1.1 in
    (bounds.0, (bounds.1.0, (clauses.0.1, (clauses.1.0.1, (clauses.1.1.0, clauses)))))
