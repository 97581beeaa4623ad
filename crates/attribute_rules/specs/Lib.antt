pub mod AttributeRules
