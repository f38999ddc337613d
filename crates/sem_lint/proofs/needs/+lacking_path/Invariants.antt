use Rattle.sem_lint.proofs.needs.+lacking_path.Given as goal

abbrev pub decreases-lacking_path : goal.decreases-lacking_path
decreases-lacking_path l = l.depth
